-- What a text within the limits says of its expressions, comparisons and right sides.
use Rattle.std.proofs.Common.{◌≡◌, ℕ, zero, suc, ◌+◌, ◌≤◌, ◌<◌, refl, ◌∙◌, arith, List, [], ◌∷◌, Bool, true, false, Option, Some, None, Ok}
use Rattle.std.specs.Prelude.{◌&&◌, ◌||◌, not, nat_le}
use Rattle.std.specs.List.{list_all}
use Rattle.pc_text.specs.Bytes.{Bytes}
use Rattle.pc_grammar.specs.declared.symbol.Symbol.{Symbol}
use Rattle.pc_language.specs.declared.terminal.Terminal.{Terminal}
use Rattle.pc_language.specs.declared.terminal.Terminal.TheVariants as terminal
use Rattle.pc_grammar.specs.declared.limits.Counts.{Counts}
use Rattle.pc_language.specs.declared.limits.TheConstants.{SIGNS}
use Rattle.pc_grammar.specs.declared.tree.ExprTree.{ExprTree}
use Rattle.pc_grammar.specs.declared.tree.ExprTree.TheOpen as tree
use Rattle.pc_grammar.specs.declared.tree.ExprTree.TheVariants as expr_is
use Rattle.pc_grammar.specs.Combinators.{Text, Lang, is_map, is_both, is_either, is_maybe, is_many}
use Rattle.pc_grammar.specs.Terminals.{the, is_one, is_one_of}
use Rattle.pc_grammar.specs.Expressions as grammar
use Rattle.pc_grammar.specs.Limits.{of_expressions, counts}
use Rattle.pc_show.specs.declared.showing.level.Level.TheVariants as level
use Rattle.pc_readback.specs.Showable.{is_literal}
use Rattle.pc_readback.specs.ShownTrees as short
use Rattle.pc_program.proofs.Results.{and_is, and_of, at_most}
use Rattle.pc_syntax.proofs.PhraseSymbols.{paren_over, expr_over}
use Rattle.pc_readback.proofs.SignCosts.{cost, signs_on}
use Rattle.pc_readback.proofs.SignBounds.{signs_cost}
use Rattle.pc_syntax.proofs.Phrases.{IsOne, Sees, one_sees, map_sees, both_sees, either_sees, maybe_sees, many_sees, dead_sees}
use Rattle.pc_syntax.proofs.Trees.{at-num, at-name, at-neg, at-add, at-sub, at-mul}
use Rattle.pc_readback.proofs.Seen.{flat_on}

-- a symbol whose number is that of a token, and which is spelled by a name where it stands for one
abbrev pub spelled : Bytes → Symbol → Bool
spelled src s = is_literal s.number && (not (the terminal.Name s) || short.spells_name src s)

-- a test of a phrase that stands behind no keyword is passed, and the braces are as before
pub record Passes (b : Bool) (c d : Counts) : Type 0 where
  pub passed : c.behind_keyword ≡ false → b ≡ true
  pub level : d.braces ≡ c.braces

-- ---- the numbers of expressions

products_literal : (x : ExprTree) (ys : List (Symbol × ExprTree)) → short.has_literals x ≡ true → list_all (λ y. short.has_literals y.1) ys ≡ true → short.has_literals (grammar.products x ys) ≡ true
products_literal x [] h k = h
products_literal x (y ∷ ys) h k =
    let p = and_is (short.has_literals y.1) (list_all (λ y. short.has_literals y.1) ys) k in
    products_literal (grammar.product x y) ys (at-mul Bool short.literal_step x y.1 y.0.place ∙ and_of (short.has_literals x) (short.has_literals y.1) h p.0) p.1

sum_literal : (b : Bool) (x : ExprTree) (y : Symbol × ExprTree) → short.has_literals x ≡ true → short.has_literals y.1 ≡ true → short.has_literals (grammar.sum_if b x y) ≡ true
sum_literal true x y h k = at-sub Bool short.literal_step x y.1 y.0.place ∙ and_of (short.has_literals x) (short.has_literals y.1) h k
sum_literal false x y h k = at-add Bool short.literal_step x y.1 y.0.place ∙ and_of (short.has_literals x) (short.has_literals y.1) h k

sums_literal : (x : ExprTree) (ys : List (Symbol × ExprTree)) → short.has_literals x ≡ true → list_all (λ y. short.has_literals y.1) ys ≡ true → short.has_literals (grammar.sums x ys) ≡ true
sums_literal x [] h k = h
sums_literal x (y ∷ ys) h k =
    let p = and_is (short.has_literals y.1) (list_all (λ y. short.has_literals y.1) ys) k in
    sums_literal (grammar.sum x y) ys (sum_literal (the terminal.Minus y.0) x y h p.0) p.1

module _ (src : Bytes) where
  -- an expression with literals, among any counts
  Literal : ExprTree → Counts → Counts → Type 0
  Literal t c d = short.has_literals t ≡ true

  Literals : List (Symbol × ExprTree) → Counts → Counts → Type 0
  Literals ys c d = list_all (λ y. short.has_literals y.1) ys ≡ true

  module _ (P : Lang ExprTree) (p : Sees (spelled src) P Literal) where
    atom_literal : Sees (spelled src) (grammar.is_atom P) Literal
    unfolding Literal
    atom_literal = either_sees (spelled src) _ _ Literal (map_sees (spelled src) grammar.number _ (IsOne (spelled src) (terminal.Number ∷ [])) Literal
        (λ s c d i. at-num Bool short.literal_step s.number ∙ (and_is (is_literal s.number) (not (the terminal.Name s) || short.spells_name src s) i.fits).0) (one_sees (spelled src) (terminal.Number ∷ []))) (either_sees (spelled src) _ P Literal
        (map_sees (spelled src) grammar.name _ (IsOne (spelled src) (terminal.Name ∷ [])) Literal (λ s c d i. at-name Bool short.literal_step s) (one_sees (spelled src) (terminal.Name ∷ []))) p)

    factor_literal : Sees (spelled src) (grammar.is_factor P) Literal
    unfolding Literal
    factor_literal = map_sees (spelled src) grammar.signed _ (λ x c d. short.has_literals x.1 ≡ true) Literal signed (both_sees (spelled src) _ _ (λ o c d. Unit {0}) Literal (λ x c d. short.has_literals x.1 ≡ true) (λ x c e d i j. j)
        (maybe_sees (spelled src) _ (IsOne (spelled src) (terminal.Minus ∷ [])) (λ o c d. Unit {0}) (λ c. tt) (λ s c d i. tt) (one_sees (spelled src) (terminal.Minus ∷ []))) atom_literal)
      where
        signed : (x : Option Symbol × ExprTree) (c d : Counts) → short.has_literals x.1 ≡ true → short.has_literals (grammar.signed x) ≡ true
        signed (None, x) c d h = h
        signed (Some s, x) c d h = at-neg Bool short.literal_step x s.place ∙ h

    -- what stands behind a sign, as often as it does
    signed_literals : (ks : List Terminal) (L : Lang ExprTree) → Sees (spelled src) L Literal → Sees (spelled src) (is_many (is_both (is_one_of ks) L)) Literals
    unfolding Literal Literals
    signed_literals ks L l = many_sees (spelled src) _ (λ y c d. short.has_literals y.1 ≡ true) Literals (λ c. refl) (λ y ys c e d i j. and_of (short.has_literals y.1) (list_all (λ y. short.has_literals y.1) ys) i j)
        (both_sees (spelled src) _ L (IsOne (spelled src) ks) Literal (λ y c d. short.has_literals y.1 ≡ true) (λ y c e d i j. j) (one_sees (spelled src) ks) l)

    addend_literal : Sees (spelled src) (grammar.is_addend P) Literal
    unfolding Literal Literals
    addend_literal = map_sees (spelled src) grammar.all_products _ (λ x c d. (short.has_literals x.0 ≡ true) × (list_all (λ y. short.has_literals y.1) x.1 ≡ true)) Literal (λ x c d i. products_literal x.0 x.1 i.0 i.1)
        (both_sees (spelled src) _ _ Literal Literals (λ x c d. (short.has_literals x.0 ≡ true) × (list_all (λ y. short.has_literals y.1) x.1 ≡ true))
        (λ x c e d i j. (i, j)) factor_literal (signed_literals (terminal.Star ∷ []) (grammar.is_factor P) factor_literal))

    expr_literal : Sees (spelled src) (grammar.is_expr_in P) Literal
    unfolding Literal Literals
    expr_literal = map_sees (spelled src) grammar.all_sums _ (λ x c d. (short.has_literals x.0 ≡ true) × (list_all (λ y. short.has_literals y.1) x.1 ≡ true)) Literal (λ x c d i. sums_literal x.0 x.1 i.0 i.1)
        (both_sees (spelled src) _ _ Literal Literals (λ x c d. (short.has_literals x.0 ≡ true) × (list_all (λ y. short.has_literals y.1) x.1 ≡ true))
        (λ x c e d i j. (i, j)) addend_literal (signed_literals grammar.signs (grammar.is_addend P) addend_literal))

  paren_literal : (n : ℕ) → Sees (spelled src) (grammar.is_paren n) Literal
  unfolding Literal
  paren_literal zero = dead_sees (spelled src) Literal
  paren_literal (suc n) = map_sees (spelled src) grammar.inner _ (λ x c d. short.has_literals x.1.0 ≡ true) Literal (λ x c d h. h) (both_sees (spelled src) _ _ (IsOne (spelled src) (terminal.OpenParen ∷ []))
      (λ x c d. short.has_literals x.0 ≡ true) (λ x c d. short.has_literals x.1.0 ≡ true) (λ x c e d i j. j) (one_sees (spelled src) (terminal.OpenParen ∷ []))
      (both_sees (spelled src) _ _ Literal (IsOne (spelled src) (terminal.CloseParen ∷ [])) (λ x c d. short.has_literals x.0 ≡ true)
      (λ x c e d i j. i) (expr_literal (grammar.is_paren n) (paren_literal n)) (one_sees (spelled src) (terminal.CloseParen ∷ []))))

  -- ---- expressions

  few_by : (n m a b : ℕ) → m ≡ n + a → (0 < a → m ≤ SIGNS) → b ≤ a → b ≤ SIGNS
  few_by n m zero b s h l = omega arith
  few_by n m (suc a) b s h l = let k = h (omega arith) in omega arith

  module _ (n : ℕ) where
    few : (t : ExprTree) (w v : Text) → grammar.is_expr_in (grammar.is_paren n) t w → (most : Option ℕ) (c d : Counts) → counts most c w v ≡ Ok d → c.behind_keyword ≡ false → short.signs t level.Expression ≤ SIGNS
    few t w v l most c d k b =
        let i = signs_on most c d w v (expr_over (grammar.is_paren n) (paren_over n) t w l) b k in
        few_by c.signs d.signs (cost w v) (short.signs t level.Expression) i.sum i.most (signs_cost n t w v l)

    pub expr_sees : Sees (spelled src) (grammar.is_expr_in (grammar.is_paren n)) (λ t c d. Passes (short.short_expr t) c d)
    unfolding Literal
    expr_sees t w v l h most c d k = record {
      passed = λ b. and_of (short.has_literals t) (nat_le (short.signs t level.Expression) SIGNS) (expr_literal (grammar.is_paren n) (paren_literal n) t w v l h most c d k)
          (at_most (short.signs t level.Expression) SIGNS (few t w v l most c d k b));
      level = flat_on of_expressions refl most c d w v (expr_over (grammar.is_paren n) (paren_over n) t w l) k;
    }
