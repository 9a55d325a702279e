-- The laws of expressions.
use Rattle.std.proofs.Common.{◌≡◌, ℕ, zero, suc, true, List, [], ◌∷◌, ◌++◌, None, refl, inl, pos}
use Rattle.pc_grammar.specs.declared.symbol.Symbol.{Symbol}
use Rattle.pc_language.specs.declared.terminal.Terminal.{Terminal}
use Rattle.pc_language.specs.declared.terminal.Terminal.TheVariants as terminal
use Rattle.pc_grammar.specs.declared.tree.ExprTree.{ExprTree}
use Rattle.pc_grammar.specs.Combinators.{Text, Parser, Lang, Class, none, both, is_both}
use Rattle.pc_grammar.specs.Terminals.{among, the, one, is_one, one_of, is_one_of}
use Rattle.pc_grammar.specs.Expressions.{signs, number, name, signed, all_products, all_sums, inner, atom, factor, star_factor, addend, sign_addend, expr_in, paren_in, paren, is_atom, is_factor, is_star_factor, is_addend, is_sign_addend, is_expr_in, is_paren_in, is_paren}
use Rattle.pc_grammar.proofs.Combinators.{token_laws, map_laws, both_laws, either_laws, maybe_laws, shut_laws, alike_laws}
use Rattle.pc_grammar.proofs.Outcomes.{Laws, Begins}
use Rattle.pc_grammar.proofs.Repetition.{many_laws}
use Rattle.pc_grammar.proofs.Sets.{parted, parts, fewer, none_ends, one_begins, map_begins, both_begins, either_begins, maybe_begins, many_parts}

-- some symbol that stands for the terminal
abbrev pub any_of : Terminal → Symbol
any_of k = record { terminal = k; number = pos 0; from = 0; to = 0; place = record { line = 1; column = 1 } }

abbrev pub only : Terminal → List Terminal
only k = k ∷ []

abbrev pub after_addend : List Terminal
after_addend = terminal.Star ∷ []

abbrev pub after_expr : List Terminal
after_expr = terminal.Plus ∷ terminal.Minus ∷ terminal.Star ∷ []

abbrev pub begins_atom : List Terminal
begins_atom = terminal.Number ∷ terminal.Name ∷ terminal.OpenParen ∷ []

abbrev pub begins_expr : List Terminal
begins_expr = terminal.Minus ∷ begins_atom

-- ---- a symbol of which nothing depends on what follows, and then another parser

module _ {A B : Type 0} (d : Class) (L L' : Lang A) (M M' : Lang B) (p p' : Parser A) (q q' : Parser B) where
  pub then_laws : Laws none L L' p p' → Laws d M M' q q' → Laws d (is_both L M) (is_both L' M') (both p q) (both p' q')
  then_laws first second = both_laws none d d L L' M M' p p' q q' first second (λ b v r m e. none_ends (v ++ r)) (λ r e. e)

-- where the words end by themselves, they do so before any class
pub closed_laws : {A : Type 0} (e : Class) (L L' : Lang A) (p p' : Parser A) → Laws none L L' p p' → Laws e L L' p p'
closed_laws e L L' p p' laws = alike_laws none e L L' L L' p p' laws (λ r h. none_ends r) (λ a w l. l) (λ a w l. l) (λ a w l. l)

pub one_laws : (k : Terminal) → the k (any_of k) ≡ true → Laws none (is_one k) (is_one k) (one k) (one k)
one_laws k h = token_laws (the k) (any_of k) h

sign_laws : Laws none (is_one_of signs) (is_one_of signs) (one_of signs) (one_of signs)
sign_laws = token_laws (among signs) (any_of terminal.Plus) refl

-- ---- with what expressions begin

abbrev pub Opens : Lang ExprTree → Type 0
Opens P = (a : ExprTree) (w : Text) → P a w → Begins (the terminal.OpenParen) w

atom_begins : (P : Lang ExprTree) → Opens P → (a : ExprTree) (w : Text) → is_atom P a w → Begins (among begins_atom) w
atom_begins P h = either_begins (only terminal.Number) begins_atom begins_atom _ _ refl refl (map_begins number _ _ (one_begins (only terminal.Number)))
    (either_begins (only terminal.Name) (only terminal.OpenParen) begins_atom _ _ refl refl (map_begins name _ _ (one_begins (only terminal.Name))) h)

factor_begins : (P : Lang ExprTree) → Opens P → (a : ExprTree) (w : Text) → is_factor P a w → Begins (among begins_expr) w
factor_begins P h = map_begins signed _ _ (maybe_begins (only terminal.Minus) begins_atom begins_expr _ _ refl refl (one_begins (only terminal.Minus)) (atom_begins P h))

pub addend_begins : (P : Lang ExprTree) → Opens P → (a : ExprTree) (w : Text) → is_addend P a w → Begins (among begins_expr) w
addend_begins P h = map_begins _ _ _ (both_begins _ _ _ (factor_begins P h))

pub expr_begins : (P : Lang ExprTree) → Opens P → (a : ExprTree) (w : Text) → is_expr_in P a w → Begins (among begins_expr) w
expr_begins P h = map_begins _ _ _ (both_begins _ _ _ (addend_begins P h))

pub paren_begins : (n : ℕ) → Opens (is_paren n)
paren_begins zero a w l = absurd l
paren_begins (suc n) a w l = map_begins inner _ _ (both_begins _ _ _ (one_begins (only terminal.OpenParen))) a w l

-- ---- the laws, given those of parentheses

module _ (P P' : Lang ExprTree) (p p' : Parser ExprTree) (laws : Laws none P P' p p') (opens : Opens P) where
  atom_laws : Laws none (is_atom P) (is_atom P') (atom p) (atom p')
  atom_laws = either_laws (the terminal.Number) none _ _ _ _ _ _ _ _
      (map_laws number none _ _ _ _ (one_laws terminal.Number refl))
      (either_laws (the terminal.Name) none _ _ _ _ _ _ _ _ (map_laws name none _ _ _ _ (one_laws terminal.Name refl)) laws
      (map_begins name _ _ (one_begins (only terminal.Name)))
      (λ a w l r e. parts (only terminal.OpenParen) (only terminal.Name) refl w r (opens a w l)))
      (map_begins number _ _ (one_begins (only terminal.Number)))
      (λ a w l r e. parts (terminal.Name ∷ terminal.OpenParen ∷ []) (only terminal.Number) refl w r
      (either_begins (only terminal.Name) (only terminal.OpenParen) (terminal.Name ∷ terminal.OpenParen ∷ []) _ _ refl refl (map_begins name _ _ (one_begins (only terminal.Name))) opens a w l))

  factor_laws : Laws none (is_factor P) (is_factor P') (factor p) (factor p')
  factor_laws = map_laws signed none _ _ _ _
      (both_laws (the terminal.Minus) none none _ _ _ _ _ _ _ _
      (maybe_laws (the terminal.Minus) none (the terminal.Minus) _ _ _ _ (one_laws terminal.Minus refl) (one_begins (only terminal.Minus)) (λ r e. e) (λ r e. none_ends r))
      atom_laws
      (λ b v r m e. parts begins_atom (only terminal.Minus) refl v r (atom_begins P opens b v m))
      (λ r e. e))

  pub star_factor_laws : Laws none (is_star_factor P) (is_star_factor P') (star_factor p) (star_factor p')
  star_factor_laws = then_laws none _ _ _ _ _ _ _ _ (one_laws terminal.Star refl) factor_laws

  pub addend_laws : Laws (among after_addend) (is_addend P) (is_addend P') (addend p) (addend p')
  addend_laws = map_laws all_products _ _ _ _ _ (then_laws (among after_addend) _ _ _ _ _ _ _ _ factor_laws
      (many_laws (the terminal.Star) none (among after_addend) _ _ _ _ star_factor_laws
      (both_begins _ _ _ (one_begins (only terminal.Star))) (λ v b. none_ends v) (λ r e. e) (λ r e. none_ends r)))

  pub sign_addend_laws : Laws (among after_addend) (is_sign_addend P) (is_sign_addend P') (sign_addend p) (sign_addend p')
  sign_addend_laws = then_laws (among after_addend) _ _ _ _ _ _ _ _ sign_laws addend_laws

  pub expr_laws : Laws (among after_expr) (is_expr_in P) (is_expr_in P') (expr_in p) (expr_in p')
  expr_laws = map_laws all_sums _ _ _ _ _
      (both_laws (among after_addend) (among after_expr) (among after_expr) _ _ _ _ _ _ _ _ addend_laws
      (many_laws (among signs) (among after_addend) (among after_expr) _ _ _ _ sign_addend_laws
      (both_begins _ _ _ (one_begins signs)) (parted signs after_addend refl) (fewer signs after_expr refl) (fewer after_addend after_expr refl))
      (many_parts signs _ _ _ (both_begins _ _ _ (one_begins signs)) (parted signs after_addend refl) (fewer after_addend after_expr refl)) (λ r e. e))

  pub paren_in_laws : Laws none (is_paren_in P) (is_paren_in P') (paren_in p) (paren_in p')
  paren_in_laws = map_laws inner _ _ _ _ _ (then_laws none _ _ _ _ _ _ _ _ (one_laws terminal.OpenParen refl)
      (both_laws (among after_expr) none none _ _ _ _ _ _ _ _ expr_laws (one_laws terminal.CloseParen refl)
      (λ b v r m e. parts (only terminal.CloseParen) after_expr refl v r (one_begins (only terminal.CloseParen) b v m)) (λ r e. e)))

-- ---- a number is an expression

abbrev a_number : Symbol
a_number = any_of terminal.Number

factor_example : (P : Lang ExprTree) → is_factor P (number a_number) (a_number ∷ [])
factor_example P = ((None, number a_number), refl, ([], a_number ∷ [], refl, refl, inl (a_number, refl, (refl, refl))))

addend_example : (P : Lang ExprTree) → is_addend P (number a_number) (a_number ∷ [])
addend_example P = ((number a_number, []), refl, (a_number ∷ [], [], refl, factor_example P, refl))

pub expr_example : (P : Lang ExprTree) → is_expr_in P (number a_number) (a_number ∷ [])
expr_example P = ((number a_number, []), refl, (a_number ∷ [], [], refl, addend_example P, refl))

paren_example : (s : Symbol) → the terminal.OpenParen s ≡ true → (a : ExprTree) × (w : Text) × is_paren 1 a (s ∷ w)
paren_example s h =
    let c = any_of terminal.CloseParen in
    (number a_number, a_number ∷ c ∷ [], ((s, (number a_number, c)), refl, (s ∷ [], a_number ∷ c ∷ [], refl, (h, refl), (a_number ∷ [], c ∷ [], refl, expr_example (is_paren 0), (refl, refl)))))

-- ---- at every depth

pub paren_laws : (n : ℕ) → Laws none (is_paren n) (is_paren (suc n)) (paren n) (paren (suc n))
paren_laws zero = shut_laws (the terminal.OpenParen) (is_paren 1) (paren 1) (any_of terminal.OpenParen) refl refl (λ t r e. rw e refl) paren_example
paren_laws (suc n) = paren_in_laws _ _ _ _ (paren_laws n) (paren_begins n)
