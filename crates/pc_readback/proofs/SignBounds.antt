-- The canonical text of an expression has no more signs than any word of it.
use Rattle.std.proofs.Common.{◌≡◌, ℕ, zero, suc, ◌+◌, ◌≤◌, ℤ, refl, ap, sym, ◌∙◌, arith, List, [], ◌∷◌, ◌++◌, Bool, true, false, Some, None, inl, inr}
use Rattle.std.specs.Prelude.{not}
use Rattle.pc_text.specs.declared.place.Place.{Place}
use Rattle.pc_grammar.specs.declared.symbol.Symbol.{Symbol}
use Rattle.pc_language.specs.declared.terminal.Terminal.{Terminal}
use Rattle.pc_language.specs.declared.terminal.Terminal.TheVariants as terminal
use Rattle.pc_grammar.specs.declared.tree.ExprTree.{ExprTree, ExprTree-F, map-ExprTree, roll-ExprTree, fold-roll-ExprTree}
use Rattle.pc_grammar.specs.declared.tree.ExprTree.TheOpen as tree
use Rattle.pc_grammar.specs.declared.tree.ExprTree.TheVariants as expr_is
use Rattle.pc_grammar.specs.Combinators.{Text, Lang, is_many, starts}
use Rattle.pc_grammar.specs.Terminals.{the, has}
use Rattle.pc_grammar.specs.Expressions as grammar
use Rattle.pc_grammar.specs.Limits.{is_sign}
use Rattle.pc_grammar.proofs.Expressions.{Opens, begins_expr, addend_begins, paren_begins}
use Rattle.pc_grammar.proofs.Sets.{parts}
use Rattle.pc_show.specs.declared.showing.level.Level.{Level}
use Rattle.pc_show.specs.declared.showing.level.Level.TheVariants as level
use Rattle.pc_show.specs.Canonical.{wraps_negation, wraps_sum, wraps_product}
use Rattle.pc_readback.specs.ShownTrees.{around, sign_step, signs}
use Rattle.pc_syntax.proofs.Trees.{by_expr}
use Rattle.pc_readback.proofs.SignCosts.{cost, cost-append, sign_costs}

-- ---- the signs of a tree at each level

rolled : (t : ExprTree-F ExprTree) (l : Level) → signs (roll-ExprTree t) l ≡ sign_step (map-ExprTree ExprTree (Level → ℕ) signs t) l
rolled t l = ap (λ (f : Level → ℕ). f l) (fold-roll-ExprTree (Level → ℕ) sign_step t)

pub signs-num : (z : ℤ) (l : Level) → signs (expr_is.Num z) l ≡ 0
signs-num z l = ap (λ t. signs t l) (sym (expr_is.rolls-Num z)) ∙ rolled (tree.Num z) l

signs-name : (s : Symbol) (l : Level) → signs (expr_is.Name s) l ≡ 0
signs-name s l = ap (λ t. signs t l) (sym (expr_is.rolls-Name s)) ∙ rolled (tree.Name s) l

signs-neg : (a : ExprTree) (p : Place) (l : Level) → signs (expr_is.Neg a p) l ≡ around (wraps_negation l) (1 + signs a level.Atom)
signs-neg a p l = ap (λ t. signs t l) (sym (expr_is.rolls-Neg a p)) ∙ rolled (tree.Neg a p) l

signs-add : (a b : ExprTree) (p : Place) (l : Level) → signs (expr_is.Add a b p) l ≡ around (wraps_sum l) (signs a level.Expression + (1 + signs b level.Addend))
signs-add a b p l = ap (λ t. signs t l) (sym (expr_is.rolls-Add a b p)) ∙ rolled (tree.Add a b p) l

signs-sub : (a b : ExprTree) (p : Place) (l : Level) → signs (expr_is.Sub a b p) l ≡ around (wraps_sum l) (signs a level.Expression + (1 + signs b level.Addend))
signs-sub a b p l = ap (λ t. signs t l) (sym (expr_is.rolls-Sub a b p)) ∙ rolled (tree.Sub a b p) l

signs-mul : (a b : ExprTree) (p : Place) (l : Level) → signs (expr_is.Mul a b p) l ≡ around (wraps_product l) (signs a level.Addend + (1 + signs b level.Factor))
signs-mul a b p l = ap (λ t. signs t l) (sym (expr_is.rolls-Mul a b p)) ∙ rolled (tree.Mul a b p) l

-- tighter places need no fewer signs, and one pair of parentheses is the most that one needs more
record Rises (t : ExprTree) : Type 0 where
  to_addend : signs t level.Expression ≤ signs t level.Addend
  to_factor : signs t level.Addend ≤ signs t level.Factor
  to_atom : signs t level.Factor ≤ signs t level.Atom
  one_more : signs t level.Atom ≤ signs t level.Expression + 1

rises_by : (t : ExprTree-F ExprTree) (n : ℕ) (e a f o : ℕ) → sign_step (map-ExprTree ExprTree (Level → ℕ) signs t) level.Expression ≡ e → sign_step (map-ExprTree ExprTree (Level → ℕ) signs t) level.Addend ≡ a →
    sign_step (map-ExprTree ExprTree (Level → ℕ) signs t) level.Factor ≡ f → sign_step (map-ExprTree ExprTree (Level → ℕ) signs t) level.Atom ≡ o → e ≤ a → a ≤ f → f ≤ o → o ≤ e + 1 → Rises (roll-ExprTree t)
rises_by t n e a f o i j k l h1 h2 h3 h4 =
    let e' = rolled t level.Expression ∙ i in
    let a' = rolled t level.Addend ∙ j in
    let f' = rolled t level.Factor ∙ k in
    let o' = rolled t level.Atom ∙ l in
    record { to_addend = omega arith; to_factor = omega arith; to_atom = omega arith; one_more = omega arith }

rises : (t : ExprTree) → Rises t
rises t = by_expr Rises
    (λ z. rises_by (tree.Num z) 0 0 0 0 0 refl refl refl refl (omega arith) (omega arith) (omega arith) (omega arith))
    (λ s. rises_by (tree.Name s) 0 0 0 0 0 refl refl refl refl (omega arith) (omega arith) (omega arith) (omega arith))
    (λ a p h. let n = 1 + signs a level.Atom in rises_by (tree.Neg a p) 0 n n n (1 + n) refl refl refl refl (omega arith) (omega arith) (omega arith) (omega arith))
    (λ a b p h k. let n = signs a level.Expression + (1 + signs b level.Addend) in
    rises_by (tree.Add a b p) 0 n (1 + n) (1 + n) (1 + n) refl refl refl refl (omega arith) (omega arith) (omega arith) (omega arith))
    (λ a b p h k. let n = signs a level.Expression + (1 + signs b level.Addend) in
    rises_by (tree.Sub a b p) 0 n (1 + n) (1 + n) (1 + n) refl refl refl refl (omega arith) (omega arith) (omega arith) (omega arith))
    (λ a b p h k. let n = signs a level.Addend + (1 + signs b level.Factor) in
    rises_by (tree.Mul a b p) 0 n n (1 + n) (1 + n) refl refl refl refl (omega arith) (omega arith) (omega arith) (omega arith))
    t

-- ---- the words of each language

-- the words of a language cost at least the signs of their trees at this level, and k more
Bounds : ℕ → Level → Lang ExprTree → Type 0
Bounds k l L = (t : ExprTree) (w v : Text) → L t w → signs t l + k ≤ cost w v

module _ (P : Lang ExprTree) (opens : Opens P) (p : Bounds 1 level.Expression P) where
  atom_bounds : Bounds 0 level.Atom (grammar.is_atom P)
  unfolding Bounds
  atom_bounds t w v (inl (s, e, l)) = let h = ap (λ t. signs t level.Atom) e ∙ signs-num s.number level.Atom in omega arith
  atom_bounds t w v (inr (inl (s, e, l))) = let h = ap (λ t. signs t level.Atom) e ∙ signs-name s level.Atom in omega arith
  atom_bounds t w v (inr (inr l)) = let h = p t w v l in let r = (rises t).one_more in omega arith

  factor_bounds : Bounds 0 level.Factor (grammar.is_factor P)
  unfolding Bounds
  factor_bounds t w v ((None, x), e, (u, u', q, m, l)) =
      let h = atom_bounds x u' v l in
      let r = (rises x).to_atom in
      let s = ap (λ t. signs t level.Factor) e in
      let c = ap (λ z. cost z v) (q ∙ ap (λ z. z ++ u') m) in
      omega arith
  factor_bounds t w v ((Some s, x), e, (u, u', q, (m, n), l)) =
      let h = atom_bounds x u' v l in
      let f = ap (λ t. signs t level.Factor) e ∙ signs-neg x s.place level.Factor in
      let c = ap (λ z. cost z v) (q ∙ ap (λ z. z ++ u') n) ∙ sign_costs s u' v (minus s.terminal m (u' ++ v)) in
      omega arith
    where
      minus : (k : Terminal) → has (terminal.Minus ∷ []) k ≡ true → (r : Text) → is_sign k false r ≡ true
      minus terminal.Minus h r = refl
      minus k h r = absurd (cc)

  -- factors behind an addend
  products_bound : (x : ExprTree) (ys : List (Symbol × ExprTree)) (w v : Text) (k : ℕ) → is_many (grammar.is_star_factor P) ys w → signs x level.Addend ≤ k → signs (grammar.products x ys) level.Addend ≤ k + cost w v
  unfolding Bounds
  products_bound x [] w v k e h = omega arith
  products_bound x (y ∷ ys) w v k (u, u', q, (a, b, r, (m, n), l), more) h =
      let f = factor_bounds y.1 b (u' ++ v) l in
      let g = signs-mul x y.1 y.0.place level.Addend in
      let c = ap (λ z. cost z v) q ∙ cost-append u u' v in
      let d = ap (λ z. cost z (u' ++ v)) (r ∙ ap (λ z. z ++ b) n) ∙ sign_costs y.0 b (u' ++ v) (star y.0.terminal m (b ++ (u' ++ v))) in
      let j = products_bound (grammar.product x y) ys u' v (k + cost u (u' ++ v)) more (omega arith) in
      omega arith
    where
      star : (k : Terminal) → has (terminal.Star ∷ []) k ≡ true → (r : Text) → is_sign k false r ≡ true
      star terminal.Star h r = refl
      star k h r = absurd (cc)

  addend_bounds : Bounds 0 level.Addend (grammar.is_addend P)
  unfolding Bounds
  addend_bounds t w v ((x, ys), e, (u, u', q, l, more)) =
      let f = factor_bounds x u (u' ++ v) l in
      let r = (rises x).to_factor in
      let c = ap (λ z. cost z v) q ∙ cost-append u u' v in
      let h = products_bound x ys u' v (cost u (u' ++ v)) more (omega arith) in
      let s = ap (λ t. signs t level.Addend) e in
      omega arith

  -- the sign before an addend, which is no choice, is counted
  plus_or_minus : (s : Symbol) (t : ExprTree) (b r : Text) → has grammar.signs s.terminal ≡ true → grammar.is_addend P t b → is_sign s.terminal false (b ++ r) ≡ true
  plus_or_minus s t b r m l = by s.terminal m (parts begins_expr (terminal.OpenBracket ∷ []) refl b r (addend_begins P opens t b l))
    where
      by : (k : Terminal) → has grammar.signs k ≡ true → starts (the terminal.OpenBracket) (b ++ r) ≡ false → is_sign k false (b ++ r) ≡ true
      by terminal.Plus h e = ap not e
      by terminal.Minus h e = refl
      by k h e = absurd (cc)

  sum_signs : (b : Bool) (x : ExprTree) (y : Symbol × ExprTree) → signs (grammar.sum_if b x y) level.Expression ≡ signs x level.Expression + (1 + signs y.1 level.Addend)
  sum_signs true x y = signs-sub x y.1 y.0.place level.Expression
  sum_signs false x y = signs-add x y.1 y.0.place level.Expression

  -- addends behind an expression
  sums_bound : (x : ExprTree) (ys : List (Symbol × ExprTree)) (w v : Text) (k : ℕ) → is_many (grammar.is_sign_addend P) ys w → signs x level.Expression ≤ k → signs (grammar.sums x ys) level.Expression ≤ k + cost w v
  unfolding Bounds
  sums_bound x [] w v k e h = omega arith
  sums_bound x (y ∷ ys) w v k (u, u', q, (a, b, r, (m, n), l), more) h =
      let f = addend_bounds y.1 b (u' ++ v) l in
      let g = sum_signs (the terminal.Minus y.0) x y in
      let c = ap (λ z. cost z v) q ∙ cost-append u u' v in
      let d = ap (λ z. cost z (u' ++ v)) (r ∙ ap (λ z. z ++ b) n) ∙ sign_costs y.0 b (u' ++ v) (plus_or_minus y.0 y.1 b (u' ++ v) m l) in
      let j = sums_bound (grammar.sum x y) ys u' v (k + cost u (u' ++ v)) more (omega arith) in
      omega arith

  expr_bounds : Bounds 0 level.Expression (grammar.is_expr_in P)
  unfolding Bounds
  expr_bounds t w v ((x, ys), e, (u, u', q, l, more)) =
      let f = addend_bounds x u (u' ++ v) l in
      let r = (rises x).to_addend in
      let c = ap (λ z. cost z v) q ∙ cost-append u u' v in
      let h = sums_bound x ys u' v (cost u (u' ++ v)) more (omega arith) in
      let s = ap (λ t. signs t level.Expression) e in
      omega arith

paren_bounds : (n : ℕ) → Bounds 1 level.Expression (grammar.is_paren n)
unfolding Bounds
paren_bounds zero t w v l = absurd l
paren_bounds (suc n) t w v ((s, (x, s')), e, (u, u', q, (m, o), (a, b, r, l, (m', o')))) =
    let f = expr_bounds (grammar.is_paren n) (paren_begins n) (paren_bounds n) x a (b ++ v) l in
    let c = ap (λ z. cost z v) (q ∙ ap (λ z. z ++ u') o) ∙ sign_costs s u' v (opening s.terminal m (u' ++ v)) in
    let d = ap (λ z. cost z v) r ∙ cost-append a b v in
    let g = ap (λ t. signs t level.Expression) e in
    omega arith
  where
    opening : (k : Terminal) → has (terminal.OpenParen ∷ []) k ≡ true → (r : Text) → is_sign k false r ≡ true
    opening terminal.OpenParen h r = refl
    opening k h r = absurd (cc)

-- a word of an expression costs at least the signs of the canonical text
pub signs_cost : (n : ℕ) (t : ExprTree) (w v : Text) → grammar.is_expr_in (grammar.is_paren n) t w → signs t level.Expression ≤ cost w v
unfolding Bounds
signs_cost n t w v l = let h = expr_bounds (grammar.is_paren n) (paren_begins n) (paren_bounds n) t w v l in omega arith
