-- Expressions at each level: what a level takes, a looser one takes, and parentheses make a part of the tightest.
use Rattle.std.proofs.Common.{◌≡◌, ℕ, zero, suc, ◌≤◌, refl, sym, ◌∙◌, ap, arith, Bool, true, List, [], ◌∷◌, ◌++◌, append_assoc, None, append-nil}
use Rattle.pc_text.specs.Bytes.{Bytes}
use Rattle.pc_grammar.specs.declared.symbol.Symbol.{Symbol}
use Rattle.pc_language.specs.declared.terminal.Terminal.TheVariants as terminal
use Rattle.pc_grammar.specs.declared.tree.ExprTree.{ExprTree}
use Rattle.pc_grammar.specs.Combinators.{Text, Lang, is_many}
use Rattle.pc_grammar.specs.Terminals.{is_one, is_one_of}
use Rattle.pc_grammar.specs.Expressions.{signs, product, products, sum, sums, is_atom, is_factor, is_star_factor, is_addend, is_sign_addend, is_expr_in, is_paren}
use Rattle.pc_show.specs.declared.showing.level.Level.{Level}
use Rattle.pc_show.specs.declared.showing.level.Level.TheVariants as level
use Rattle.pc_show.specs.Pieces.{Piece, Mark}
use Rattle.pc_show.specs.Canonical.{wraps_sum, wraps_product, wraps_negation, wrapped}
use Rattle.pc_readback.proofs.Derived.{Derive, Derivable, derive_one, derive_right, derive_between}

-- what the grammar takes at a level
abbrev pub at_level : Level → ℕ → Lang ExprTree
at_level level.Expression n = is_expr_in (is_paren n)
at_level level.Addend n = is_addend (is_paren n)
at_level level.Factor n = is_factor (is_paren n)
at_level level.Atom n = is_atom (is_paren n)

-- ---- one tree at looser levels

module _ (P : Lang ExprTree) (x : ExprTree) (u : Text) where
  factor_of : is_atom P x u → is_factor P x u
  factor_of h = ((None, x), refl, ([], u, refl, refl, h))

  addend_of : is_factor P x u → is_addend P x u
  addend_of h = ((x, []), refl, (u, [], sym (append-nil u), h, refl))

  expr_of : is_addend P x u → is_expr_in P x u
  expr_of h = ((x, []), refl, (u, [], sym (append-nil u), h, refl))

-- ---- one more at the end of a chain

many_more : {A : Type 0} (L : Lang A) (xs : List A) (y : A) (v w : Text) → is_many L xs v → L y w → is_many L (xs ++ y ∷ []) (v ++ w)
many_more L [] y v w h k = (w, [], ap (λ v. v ++ w) h ∙ sym (append-nil w), k, refl)
many_more L (x ∷ xs) y v w (a, b, e, l, m) k = (a, b ++ w, ap (λ v. v ++ w) e ∙ append_assoc a b w, l, many_more L xs y b w m k)

products_more : (x : ExprTree) (ys : List (Symbol × ExprTree)) (y : Symbol × ExprTree) → products x (ys ++ y ∷ []) ≡ product (products x ys) y
products_more x [] y = refl
products_more x (z ∷ ys) y = products_more (product x z) ys y

sums_more : (x : ExprTree) (ys : List (Symbol × ExprTree)) (y : Symbol × ExprTree) → sums x (ys ++ y ∷ []) ≡ sum (sums x ys) y
sums_more x [] y = refl
sums_more x (z ∷ ys) y = sums_more (sum x z) ys y

module _ (P : Lang ExprTree) (x y : ExprTree) (s : Symbol) (v w : Text) where
  pub longer_product : is_addend P x v → is_one terminal.Star s (s ∷ []) → is_factor P y w → is_addend P (product x (s, y)) (v ++ s ∷ w)
  longer_product (c, e, (a, b, f, l, m)) o k = (
    (c.0, c.1 ++ (s, y) ∷ []),
    ap (λ (x : ExprTree). product x (s, y)) e ∙ sym (products_more c.0 c.1 (s, y)),
    (a, b ++ s ∷ w, ap (λ v. v ++ s ∷ w) f ∙ append_assoc a b (s ∷ w), l, many_more (is_star_factor P) c.1 (s, y) b (s ∷ w) m (s ∷ [], w, refl, o, k)),
  )

  pub longer_sum : is_expr_in P x v → is_one_of signs s (s ∷ []) → is_addend P y w → is_expr_in P (sum x (s, y)) (v ++ s ∷ w)
  longer_sum (c, e, (a, b, f, l, m)) o k = (
    (c.0, c.1 ++ (s, y) ∷ []),
    ap (λ (x : ExprTree). sum x (s, y)) e ∙ sym (sums_more c.0 c.1 (s, y)),
    (a, b ++ s ∷ w, ap (λ v. v ++ s ∷ w) f ∙ append_assoc a b (s ∷ w), l, many_more (is_sign_addend P) c.1 (s, y) b (s ∷ w) m (s ∷ [], w, refl, o, k)),
  )

-- ---- pieces at looser levels, and in parentheses

module _ (src : Bytes) (Q : ExprTree → Type 0) (ps : List Piece) where
  abbrev At : Level → Type 0
  At l = Derivable src ps (at_level l) Q

  loosened : (L M : ℕ → Lang ExprTree) → ((n : ℕ) (x : ExprTree) (u : Text) → L n x u → M n x u) → Derivable src ps L Q → Derivable src ps M Q
  loosened L M f (least, d) = (least, λ n k u h. let t = d n k u h in record { tree = t.tree; derives = f n t.tree u t.derives; holds = t.holds })

  factor_at : At level.Atom → At level.Factor
  factor_at d = loosened (at_level level.Atom) (at_level level.Factor) (λ n. factor_of (is_paren n)) d

  addend_at : At level.Factor → At level.Addend
  addend_at d = loosened (at_level level.Factor) (at_level level.Addend) (λ n. addend_of (is_paren n)) d

  expr_at : At level.Addend → At level.Expression
  expr_at d = loosened (at_level level.Addend) (at_level level.Expression) (λ n. expr_of (is_paren n)) d

  abbrev Enclosed : List Piece
  Enclosed = Mark terminal.OpenParen ∷ ps ++ Mark terminal.CloseParen ∷ []

  in_parens : (n : ℕ) → Derive src ps (is_expr_in (is_paren n)) Q → Derive src Enclosed (is_atom (is_paren (suc n))) Q
  in_parens n d = derive_right src _ _ Q Enclosed (derive_right src _ _ Q Enclosed (derive_between src terminal.OpenParen terminal.CloseParen (is_expr_in (is_paren n)) _ _ Q (Mark terminal.OpenParen ∷ []) ps (Mark terminal.CloseParen ∷ [])
      (derive_one src terminal.OpenParen refl) d (derive_one src terminal.CloseParen refl)))

  enclosed_at : At level.Expression → Derivable src Enclosed (at_level level.Atom) Q
  enclosed_at (least, d) = (suc least, by)
    where
      by : (n : ℕ) → suc least ≤ n → Derive src Enclosed (is_atom (is_paren n)) Q
      by zero h = absurd (omega arith)
      by (suc n) h = in_parens n (d n (omega arith))

module _ (src : Bytes) (Q : ExprTree → Type 0) (ps : List Piece) where
  abbrev Wrapped : Bool → Level → Type 0
  Wrapped b l = Derivable src (wrapped b ps) (at_level l) Q

  tight : At src Q ps level.Expression → (l : Level) → Wrapped true l
  tight d level.Atom = enclosed_at src Q ps d
  tight d level.Factor = factor_at src Q (wrapped true ps) (enclosed_at src Q ps d)
  tight d level.Addend = addend_at src Q (wrapped true ps) (factor_at src Q (wrapped true ps) (enclosed_at src Q ps d))
  tight d level.Expression = expr_at src Q (wrapped true ps) (addend_at src Q (wrapped true ps) (factor_at src Q (wrapped true ps) (enclosed_at src Q ps d)))

  -- a sum where one of a level stands, a product, and a negation
  pub sum_at : At src Q ps level.Expression → (l : Level) → Wrapped (wraps_sum l) l
  sum_at d level.Expression = d
  sum_at d level.Addend = tight d level.Addend
  sum_at d level.Factor = tight d level.Factor
  sum_at d level.Atom = tight d level.Atom

  pub product_at : At src Q ps level.Addend → (l : Level) → Wrapped (wraps_product l) l
  product_at d level.Expression = expr_at src Q ps d
  product_at d level.Addend = d
  product_at d level.Factor = tight (expr_at src Q ps d) level.Factor
  product_at d level.Atom = tight (expr_at src Q ps d) level.Atom

  pub negation_at : At src Q ps level.Factor → (l : Level) → Wrapped (wraps_negation l) l
  negation_at d level.Expression = expr_at src Q ps (addend_at src Q ps d)
  negation_at d level.Addend = addend_at src Q ps d
  negation_at d level.Factor = d
  negation_at d level.Atom = tight (expr_at src Q ps (addend_at src Q ps d)) level.Atom

  -- a number or a name stands at every level as it is
  pub atom_at : At src Q ps level.Atom → (l : Level) → At src Q ps l
  atom_at d level.Expression = expr_at src Q ps (addend_at src Q ps (factor_at src Q ps d))
  atom_at d level.Addend = addend_at src Q ps (factor_at src Q ps d)
  atom_at d level.Factor = factor_at src Q ps d
  atom_at d level.Atom = d
