-- What a text within the limits says of its comparisons, tests and right sides.
use Rattle.std.proofs.Common.{◌≡◌, ℕ, pos, refl, ap, ◌∙◌, List, [], ◌∷◌, Bool, true, Option, Some, None}
use Rattle.std.specs.Prelude.{◌&&◌, nat_le}
use Rattle.std.specs.List.{list_all}
use Rattle.pc_text.specs.Bytes.{Bytes}
use Rattle.pc_grammar.specs.declared.symbol.Symbol.{Symbol}
use Rattle.pc_language.specs.declared.terminal.Terminal.{Terminal}
use Rattle.pc_language.specs.declared.terminal.Terminal.TheVariants as terminal
use Rattle.pc_grammar.specs.declared.limits.Counts.{Counts}
use Rattle.pc_language.specs.declared.limits.TheConstants.{SIGNS}
use Rattle.pc_language.specs.declared.choice.Choice.{Choice}
use Rattle.pc_grammar.specs.declared.tree.ExprTree.{ExprTree}
use Rattle.pc_grammar.specs.declared.tree.ExprTree.TheVariants as expr_is
use Rattle.pc_grammar.specs.Combinators.{Lang, is_map, is_both, is_maybe, is_many}
use Rattle.pc_grammar.specs.Terminals.{is_one, is_one_of}
use Rattle.pc_grammar.specs.Expressions as grammar
use Rattle.pc_grammar.specs.Rights as rights
use Rattle.pc_grammar.specs.Statements as stmts
use Rattle.pc_grammar.specs.Limits.{keywords}
use Rattle.pc_grammar.proofs.Sets.{apart}
use Rattle.pc_show.specs.declared.showing.level.Level.TheVariants as level
use Rattle.pc_readback.specs.ShownTrees as short
use Rattle.pc_program.proofs.Results.{and_of}
use Rattle.pc_readback.proofs.SignBounds.{signs-num}
use Rattle.pc_syntax.proofs.Phrases.{IsOne, Sees, one_sees, map_sees, both_sees, either_sees, maybe_sees, many_sees}
use Rattle.pc_syntax.proofs.Trees.{at-num}
use Rattle.pc_readback.proofs.Seen.{braces, clear_behind, level_behind}
use Rattle.pc_readback.proofs.SeenExprs.{spelled, Passes, expr_sees}

-- a test of a phrase is passed, and the braces are as before
pub record Holds (b : Bool) (c d : Counts) : Type 0 where
  pub passed : b ≡ true
  pub level : d.braces ≡ c.braces

-- the braces are as before
abbrev pub Level : {A : Type 0} → A → Counts → Counts → Type 0
Level a c d = d.braces ≡ c.braces

pub seconds_are : {A : Type 0} (F : A → Bool) (ys : List (Symbol × A)) → list_all F (stmts.seconds ys) ≡ list_all (λ y. F y.1) ys
seconds_are F [] = refl
seconds_are F (y ∷ ys) = ap (λ b. F y.1 && b) (seconds_are F ys)

module _ (src : Bytes) where
  -- what stands behind a sign stands behind no keyword
  pub behind : {A : Type 0} (ks : List Terminal) → apart ks keywords ≡ true → apart ks braces ≡ true → (L : Lang A) (F : A → Bool) → Sees (spelled src) L (λ a. Passes (F a)) →
      Sees (spelled src) (is_both (is_one_of ks) L) (λ x. Holds (F x.1))
  behind ks k b L F l = both_sees (spelled src) _ L (IsOne (spelled src) ks) (λ a. Passes (F a)) (λ x. Holds (F x.1))
      (λ x c e d i j. record { passed = j.passed (clear_behind (spelled src) ks x.0 c e k i); level = j.level ∙ level_behind (spelled src) ks x.0 c e b i }) (one_sees (spelled src) ks) l

  -- a symbol behind a phrase
  pub closed : {A : Type 0} (ks : List Terminal) → apart ks braces ≡ true → (L : Lang A) (F : A → Bool) → Sees (spelled src) L (λ a. Passes (F a)) → Sees (spelled src) (is_both L (is_one_of ks)) (λ x. Passes (F x.0))
  closed ks b L F l = both_sees (spelled src) L _ (λ a. Passes (F a)) (IsOne (spelled src) ks) (λ x. Passes (F x.0))
      (λ x c e d i j. record { passed = i.passed; level = level_behind (spelled src) ks x.1 e d b j ∙ i.level }) l (one_sees (spelled src) ks)

  pub enclosed_sees : {A : Type 0} (L : Lang A) (F : A → Bool) → Sees (spelled src) L (λ a. Passes (F a)) → Sees (spelled src) (stmts.is_enclosed L) (λ a. Holds (F a))
  enclosed_sees L F l = map_sees (spelled src) grammar.inner _ (λ x. Holds (F x.1.0)) (λ a. Holds (F a)) (λ x c d i. i)
      (behind (terminal.OpenParen ∷ []) refl refl (is_both L (is_one terminal.CloseParen)) (λ x. F x.0) (closed (terminal.CloseParen ∷ []) refl L F l))

  -- a phrase, and further ones of its kind behind signs
  pub separated_sees : {A : Type 0} (k : Terminal) → apart (k ∷ []) keywords ≡ true → apart (k ∷ []) braces ≡ true → (L : Lang A) (F : A → Bool) → Sees (spelled src) L (λ a. Passes (F a)) →
      Sees (spelled src) (stmts.is_separated k L) (λ xs. Passes (list_all F xs))
  separated_sees k p q L F l = map_sees (spelled src) stmts.all_items _ (λ x. Passes (F x.0 && list_all (λ y. F y.1) x.1)) (λ xs. Passes (list_all F xs))
      (λ x c d i. record { passed = λ b. ap (λ b. F x.0 && b) (seconds_are F x.1) ∙ i.passed b; level = i.level })
      (both_sees (spelled src) L _ (λ a. Passes (F a)) (λ ys. Holds (list_all (λ y. F y.1) ys)) (λ x. Passes (F x.0 && list_all (λ y. F y.1) x.1))
      (λ x c e d i j. record { passed = λ b. and_of (F x.0) (list_all (λ y. F y.1) x.1) (i.passed b) j.passed; level = j.level ∙ i.level }) l
      (many_sees (spelled src) _ (λ y. Holds (F y.1)) (λ ys. Holds (list_all (λ y. F y.1) ys)) (λ c. record { passed = refl; level = refl })
      (λ y ys c e d i j. record { passed = and_of (F y.1) (list_all (λ y. F y.1) ys) i.passed j.passed; level = j.level ∙ i.level }) (behind (k ∷ []) p q L F l)))

  module _ (n : ℕ) where
    compare_sees : Sees (spelled src) (stmts.is_compare (grammar.is_paren n)) (λ t. Passes (short.short_compare t))
    compare_sees = map_sees (spelled src) stmts.compare_of _ (λ x. Passes (short.short_expr x.0 && short.short_expr x.1.1)) (λ t. Passes (short.short_compare t)) (λ x c d i. i)
        (both_sees (spelled src) _ _ (λ t. Passes (short.short_expr t)) (λ y. Holds (short.short_expr y.1)) (λ x. Passes (short.short_expr x.0 && short.short_expr x.1.1))
        (λ x c e d i j. record { passed = λ b. and_of (short.short_expr x.0) (short.short_expr x.1.1) (i.passed b) j.passed; level = j.level ∙ i.level })
        (expr_sees src n) (behind stmts.operators refl refl (grammar.is_expr_in (grammar.is_paren n)) short.short_expr (expr_sees src n)))

    pub all_sees : Sees (spelled src) (stmts.is_all (grammar.is_paren n)) (λ cs. Passes (list_all short.short_compare cs))
    all_sees = separated_sees terminal.And refl refl (stmts.is_compare (grammar.is_paren n)) short.short_compare compare_sees

    pub test_sees : Sees (spelled src) (stmts.is_test (grammar.is_paren n)) (λ t. Passes (short.short_test t))
    test_sees = either_sees (spelled src) _ _ (λ t. Passes (short.short_test t)) (map_sees (spelled src) stmts.any _ (IsOne (spelled src) (terminal.Star ∷ [])) (λ t. Passes (short.short_test t))
        (λ s c d i. record { passed = λ b. refl; level = level_behind (spelled src) (terminal.Star ∷ []) s c d refl i }) (one_sees (spelled src) (terminal.Star ∷ [])))
        (map_sees (spelled src) stmts.holds _ (λ cs. Passes (list_all short.short_compare cs)) (λ t. Passes (short.short_test t)) (λ cs c d i. i) all_sees)

  -- ---- right sides

  level_one : (ks : List Terminal) → apart ks braces ≡ true → Sees (spelled src) (is_one_of ks) Level
  level_one ks b s w v l h most c d k = level_behind (spelled src) ks s c d b (one_sees (spelled src) ks s w v l h most c d k)

  level_both : {A B : Type 0} (L : Lang A) (M : Lang B) → Sees (spelled src) L Level → Sees (spelled src) M Level → Sees (spelled src) (is_both L M) Level
  level_both L M l m = both_sees (spelled src) L M Level Level Level (λ x c e d i j. j ∙ i) l m

  closed_bound_sees : Sees (spelled src) rights.is_closed_bound Level
  closed_bound_sees = map_sees (spelled src) rights.bound_of _ Level Level (λ x c d i. i) (level_both (is_maybe (is_one terminal.Minus)) (is_one terminal.Number)
      (maybe_sees (spelled src) _ Level Level (λ c. refl) (λ s c d i. i) (level_one (terminal.Minus ∷ []) refl)) (level_one (terminal.Number ∷ []) refl))

  bound_sees : Sees (spelled src) rights.is_bound Level
  bound_sees = either_sees (spelled src) _ rights.is_closed_bound Level (map_sees (spelled src) rights.open_bound _ Level Level (λ s c d i. i) (level_one (terminal.Star ∷ []) refl)) closed_bound_sees

  choice_sees : Sees (spelled src) rights.is_choice Level
  choice_sees = map_sees (spelled src) rights.choice_of _ Level Level (λ x c d i. i)
      (level_both (is_one terminal.OpenBracket) (is_both rights.is_bound (is_both (is_one terminal.Comma) (is_both rights.is_bound (is_one terminal.CloseBracket)))) (level_one (terminal.OpenBracket ∷ []) refl)
      (level_both rights.is_bound (is_both (is_one terminal.Comma) (is_both rights.is_bound (is_one terminal.CloseBracket))) bound_sees
      (level_both (is_one terminal.Comma) (is_both rights.is_bound (is_one terminal.CloseBracket)) (level_one (terminal.Comma ∷ []) refl)
      (level_both rights.is_bound (is_one terminal.CloseBracket) bound_sees (level_one (terminal.CloseBracket ∷ []) refl)))))

  -- the expression of a choice alone
  zero_is_short : short.short_expr (expr_is.Num (pos 0)) ≡ true
  zero_is_short = and_of (short.has_literals (expr_is.Num (pos 0))) (nat_le (short.signs (expr_is.Num (pos 0)) level.Expression) SIGNS) (at-num Bool short.literal_step (pos 0)) (ap (λ (n : ℕ). nat_le n SIGNS) (signs-num (pos 0) level.Expression))

  right_is : (x : ExprTree × Option (Symbol × Choice)) → short.short_expr (rights.right_of x).expr ≡ short.short_expr x.0
  right_is (x, None) = refl
  right_is (x, Some y) = refl

  pub right_sees : (n : ℕ) → Sees (spelled src) (rights.is_right (grammar.is_paren n)) (λ r. Passes (short.short_expr r.expr))
  right_sees n = either_sees (spelled src) _ _ (λ r. Passes (short.short_expr r.expr))
      (map_sees (spelled src) rights.alone rights.is_choice Level (λ r. Passes (short.short_expr r.expr)) (λ z c d i. record { passed = λ b. zero_is_short; level = i }) choice_sees)
      (map_sees (spelled src) rights.right_of _ (λ x. Passes (short.short_expr x.0)) (λ r. Passes (short.short_expr r.expr)) (λ x c d i. record { passed = λ b. right_is x ∙ i.passed b; level = i.level })
      (both_sees (spelled src) _ _ (λ t. Passes (short.short_expr t)) Level (λ x. Passes (short.short_expr x.0)) (λ x c e d i j. record { passed = i.passed; level = j ∙ i.level }) (expr_sees src n)
      (maybe_sees (spelled src) _ Level Level (λ c. refl) (λ y c d i. i) (level_both (is_one terminal.Plus) rights.is_choice (level_one (terminal.Plus ∷ []) refl) choice_sees))))
