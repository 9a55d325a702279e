-- The symbols of an expression's pieces derive a tree, of which the walk makes the expression again.
use Rattle.std.proofs.Common.{◌≡◌, ℕ, ◌+◌, ◌<◌, refl, sym, ◌∙◌, ap, arith, subst, ℤ, negsuc, List, [], ◌∷◌, ◌++◌, length, Bool, true, Option, Some, None, Result, Ok}
use Rattle.std.specs.Prelude.{◌&&◌}
use Rattle.std.proofs.lemmas.Bool.{ltb-true}
use Rattle.std.proofs.lemmas.Option.{slice_get-get_or}
use Rattle.pc_text.specs.Bytes.{Bytes}
use Rattle.pc_text.specs.declared.place.Place.{Place}
use Rattle.pc_text.specs.Named.{number_of, AreDistinct}
use Rattle.pc_rows.specs.Linear.{Linear, sum_of, scaled_by, difference_of, of_constant, fits}
use Rattle.pc_grammar.specs.declared.symbol.Symbol.{Symbol}
use Rattle.pc_language.specs.declared.terminal.Terminal.{Terminal}
use Rattle.pc_language.specs.declared.terminal.Terminal.TheVariants as terminal
use Rattle.pc_grammar.specs.declared.tree.ExprTree.{ExprTree}
use Rattle.pc_grammar.specs.declared.tree.ExprTree.TheVariants as tree
use Rattle.pc_grammar.specs.Combinators.{Text, Lang, is_map, is_either, is_maybe}
use Rattle.pc_grammar.specs.Terminals.{has, is_one}
use Rattle.pc_grammar.specs.Expressions as grammar
use Rattle.pc_program.specs.declared.tree.Expr.{Expr, fold-roll-Expr, roll-Expr}
use Rattle.pc_program.specs.declared.tree.Expr.TheVariants as e
use Rattle.pc_program.specs.declared.tree.Expr.TheOpen as expr
use Rattle.pc_program.specs.declared.normal.AffineFault.{AffineFault}
use Rattle.pc_program.specs.declared.normal.AffineFault.TheVariants.{Past}
use Rattle.pc_show.specs.declared.showing.level.Level.{Level}
use Rattle.pc_show.specs.declared.showing.level.Level.TheVariants as level
use Rattle.pc_show.specs.Pieces.{Piece, Mark, Name, Number}
use Rattle.pc_show.specs.Canonical.{name_at, spaced, joined, wraps_sum, wraps_product, wrapped, expr_pieces}
use Rattle.pc_readback.specs.Matched.{AreOf}
use Rattle.pc_program.specs.Forms.{bind, variable, product, form_step, form_of}
use Rattle.pc_syntax.specs.Context.{word}
use Rattle.pc_program.specs.Sane.{below_step, names_below}
use Rattle.pc_readback.specs.Bare.{nowhere, bare_expr_step, bare_expr}
use Rattle.pc_program.proofs.Results.{and_is}
use Rattle.pc_program.proofs.Exprs.{by_cases}
use Rattle.pc_show.proofs.Laid.{expr_laid}
use Rattle.pc_readback.proofs.PieceParts.{parts_of}
use Rattle.pc_readback.proofs.Derived.{Derive, Derivable, Given, derive_map, derive_both, derive_left, derive_right, derive_one, derive_name, derive_number, derive_some}
use Rattle.pc_readback.proofs.DerivedLevels.{at_level, longer_product, longer_sum, sum_at, product_at, negation_at, atom_at}
use Rattle.pc_readback.proofs.WalkedAgain.{bound, IsExpr, number_again, name_again, neg_again, add_again, sub_again, mul_again}

-- the symbol of a sign, and the symbols of what stands behind it
record Behind (src : Bytes) (t : Terminal) (ps : List Piece) (u : Text) : Type 0 where
  symbol : Symbol
  rest : Text
  split : u ≡ symbol ∷ rest
  is : symbol.terminal ≡ t
  more : AreOf src ps rest

behind_mark : (src : Bytes) (t : Terminal) (ps : List Piece) (u : Text) → AreOf src (Mark t ∷ ps) u → Behind src t ps u
behind_mark src t ps [] h = absurd h
behind_mark src t ps (s ∷ u) (e, h) = record { symbol = s; rest = u; split = refl; is = e; more = h }

-- a name has its number
pub numbered : (names : List Bytes) → AreDistinct names → (v : ℕ) → v < length names → number_of names (name_at names v) ≡ Some v
numbered names distinct v h = distinct v (name_at names v) (slice_get-get_or names v [] h)

module _ (src : Bytes) (P : Lang ExprTree) where
  number_derives : (z : ℤ) (Q : ExprTree → Type 0) → Q (tree.Num z) → Derive src (Number z ∷ []) (grammar.is_atom P) Q
  number_derives z Q q = derive_left src _ _ Q (Number z ∷ []) (derive_map src grammar.number _ (λ s. s.number ≡ z) Q (Number z ∷ []) (λ s h. subst (λ z. Q (tree.Num z)) (sym h) q) (derive_number src z))

  name_derives : (w : Bytes) (Q : ExprTree → Type 0) → ((s : Symbol) → word src s ≡ w → Q (tree.Name s)) → Derive src (Name w ∷ []) (grammar.is_atom P) Q
  name_derives w Q q = derive_right src _ _ Q (Name w ∷ []) (derive_left src _ P Q (Name w ∷ []) (derive_map src grammar.name _ (λ s. word src s ≡ w) Q (Name w ∷ []) q (derive_name src w)))

  negation_derives : (ps : List Piece) (X Q : ExprTree → Type 0) → ((s : Symbol) (x : ExprTree) → X x → Q (tree.Neg x s.place)) →
      Derive src ps (grammar.is_atom P) X → Derive src (Mark terminal.Minus ∷ ps) (grammar.is_factor P) Q
  negation_derives ps X Q f d = derive_map src grammar.signed _ _ Q (Mark terminal.Minus ∷ ps) (λ x h. by x.0 x.1 h.0 h.1) (derive_both src _ _ (Given src (λ s. s.terminal ≡ terminal.Minus)) X (Mark terminal.Minus ∷ []) ps
      (derive_some src _ _ (Mark terminal.Minus ∷ []) (derive_one src terminal.Minus refl)) d)
    where
      by : (o : Option Symbol) (x : ExprTree) → Given src (λ s. s.terminal ≡ terminal.Minus) o → X x → Q (grammar.signed (o, x))
      by None x h k = absurd h
      by (Some s) x h k = f s x k

  module _ (ps qs : List Piece) (X Y Q : ExprTree → Type 0) where
    sum_derives : (t : Terminal) → has grammar.signs t ≡ true → ((s : Symbol) (x y : ExprTree) → s.terminal ≡ t → X x → Y y → Q (grammar.sum x (s, y))) →
        Derive src ps (grammar.is_expr_in P) X → Derive src qs (grammar.is_addend P) Y → Derive src (joined ps t qs) (grammar.is_expr_in P) Q
    sum_derives t k f d g u h =
        let p = parts_of src ps (spaced t ++ qs) u h in
        let b = behind_mark src t qs p.right p.second in
        let x = d p.left p.first in
        let y = g b.rest b.more in
        let whole : u ≡ p.left ++ b.symbol ∷ b.rest = p.split ∙ ap (λ w. p.left ++ w) b.split in
        record {
          tree = grammar.sum x.tree (b.symbol, y.tree);
          derives = subst (grammar.is_expr_in P (grammar.sum x.tree (b.symbol, y.tree))) (sym whole)
              (longer_sum P x.tree y.tree b.symbol p.left b.rest x.derives (ap (has grammar.signs) b.is ∙ k, refl) y.derives);
          holds = f b.symbol x.tree y.tree b.is x.holds y.holds;
        }

    product_derives : ((s : Symbol) (x y : ExprTree) → X x → Y y → Q (grammar.product x (s, y))) →
        Derive src ps (grammar.is_addend P) X → Derive src qs (grammar.is_factor P) Y → Derive src (joined ps terminal.Star qs) (grammar.is_addend P) Q
    product_derives f d g u h =
        let p = parts_of src ps (spaced terminal.Star ++ qs) u h in
        let b = behind_mark src terminal.Star qs p.right p.second in
        let x = d p.left p.first in
        let y = g b.rest b.more in
        let whole : u ≡ p.left ++ b.symbol ∷ b.rest = p.split ∙ ap (λ w. p.left ++ w) b.split in
        record {
          tree = grammar.product x.tree (b.symbol, y.tree);
          derives = subst (grammar.is_addend P (grammar.product x.tree (b.symbol, y.tree))) (sym whole)
              (longer_product P x.tree y.tree b.symbol p.left b.rest x.derives (ap (has (terminal.Star ∷ [])) b.is, refl) y.derives);
          holds = f b.symbol x.tree y.tree x.holds y.holds;
        }

-- ---- the expressions of a program

module _ (src : Bytes) (names : List Bytes) (distinct : AreDistinct names) where
  abbrev pub Shown : Expr → Linear → Level → Type 0
  Shown x f l = Derivable src (expr_pieces names x l) (at_level l) (IsExpr src names (bare_expr x) f)

  abbrev Claim : Expr → Type 0
  Claim x = (f : Linear) → form_of x ≡ Ok f → names_below (length names) x ≡ true → (l : Level) → Shown x f l

  number_case : (z : ℤ) → Claim (roll-Expr (expr.Num z))
  number_case z f h k l =
      let form : of_constant z ≡ f = cc (sym (fold-roll-Expr (Result Linear AffineFault) form_step (expr.Num z)) ∙ h) in
      rw (expr_laid names (expr.Num z) l, fold-roll-Expr Expr bare_expr_step (expr.Num z), ← form)
      (atom_at src (IsExpr src names (e.Num z) (of_constant z)) (Number z ∷ []) (0, λ n i. number_derives src (grammar.is_paren n) z _ (number_again src names z)) l)

  name_case : (v : ℕ) → Claim (roll-Expr (expr.Name v))
  name_case v f h k l =
      let form : variable v ≡ f = cc (sym (fold-roll-Expr (Result Linear AffineFault) form_step (expr.Name v)) ∙ h) in
      let few = ltb-true v (length names) (sym (fold-roll-Expr Bool (below_step (length names)) (expr.Name v)) ∙ k) in
      rw (expr_laid names (expr.Name v) l, fold-roll-Expr Expr bare_expr_step (expr.Name v), ← form)
      (atom_at src (IsExpr src names (e.Name v) (variable v)) (Name (name_at names v) ∷ [])
      (0, λ n i. name_derives src (grammar.is_paren n) (name_at names v) _ (λ s w. name_again src names s v (ap (number_of names) w ∙ numbered names distinct v few))) l)

  neg_case : (a : Expr) (p : Place) → Claim a → Claim (roll-Expr (expr.Neg a p))
  neg_case a p c f h k l =
      let g = bound (form_of a) (λ x. fits (Past p) (scaled_by (negsuc 0) x)) f (sym (fold-roll-Expr (Result Linear AffineFault) form_step (expr.Neg a p)) ∙ h) in
      let d = c g.value g.first (sym (fold-roll-Expr Bool (below_step (length names)) (expr.Neg a p)) ∙ k) level.Atom in
      let ps = expr_pieces names a level.Atom in
      rw (expr_laid names (expr.Neg a p) l, fold-roll-Expr Expr bare_expr_step (expr.Neg a p))
      (negation_at src (IsExpr src names (e.Neg (bare_expr a) nowhere) f) (Mark terminal.Minus ∷ ps)
      (d.0, λ n i. negation_derives src (grammar.is_paren n) ps _ _ (λ s x y. neg_again src names p s.place (bare_expr a) g.value f x g.second y) (d.1 n i)) l)

  -- the forms of both sides, and that of the whole
  record Sides (a b : Expr) (k : Linear → Linear → Result Linear AffineFault) (f : Linear) : Type 0 where
    left : Linear
    right : Linear
    on_left : form_of a ≡ Ok left
    on_right : form_of b ≡ Ok right
    both : k left right ≡ Ok f
    below_left : names_below (length names) a ≡ true
    below_right : names_below (length names) b ≡ true

  sides : (a b : Expr) (k : Linear → Linear → Result Linear AffineFault) (f : Linear) → bind (form_of a) (λ x. bind (form_of b) (λ y. k x y)) ≡ Ok f →
      names_below (length names) a && names_below (length names) b ≡ true → Sides a b k f
  sides a b k f h n =
      let x = bound (form_of a) (λ x. bind (form_of b) (λ y. k x y)) f h in
      let y = bound (form_of b) (λ y. k x.value y) f x.second in
      let m = and_is (names_below (length names) a) (names_below (length names) b) n in
      record { left = x.value; right = y.value; on_left = x.first; on_right = y.first; both = y.second; below_left = m.0; below_right = m.1 }

  -- a sum or a difference, and a product, from both sides
  module _ (a b : Expr) (X Y Q : ExprTree → Type 0) (l : Level) where
    sum_shown : (t : Terminal) → has grammar.signs t ≡ true → ((s : Symbol) (x y : ExprTree) → s.terminal ≡ t → X x → Y y → Q (grammar.sum x (s, y))) →
        Derivable src (expr_pieces names a level.Expression) (at_level level.Expression) X → Derivable src (expr_pieces names b level.Addend) (at_level level.Addend) Y →
        Derivable src (wrapped (wraps_sum l) (joined (expr_pieces names a level.Expression) t (expr_pieces names b level.Addend))) (at_level l) Q
    sum_shown t k f x y = sum_at src Q (joined (expr_pieces names a level.Expression) t (expr_pieces names b level.Addend))
        (x.0 + y.0, λ n i. sum_derives src (grammar.is_paren n) (expr_pieces names a level.Expression) (expr_pieces names b level.Addend) X Y Q t k f (x.1 n (omega arith)) (y.1 n (omega arith))) l

    product_shown : ((s : Symbol) (x y : ExprTree) → X x → Y y → Q (grammar.product x (s, y))) →
        Derivable src (expr_pieces names a level.Addend) (at_level level.Addend) X → Derivable src (expr_pieces names b level.Factor) (at_level level.Factor) Y →
        Derivable src (wrapped (wraps_product l) (joined (expr_pieces names a level.Addend) terminal.Star (expr_pieces names b level.Factor))) (at_level l) Q
    product_shown f x y = product_at src Q (joined (expr_pieces names a level.Addend) terminal.Star (expr_pieces names b level.Factor))
        (x.0 + y.0, λ n i. product_derives src (grammar.is_paren n) (expr_pieces names a level.Addend) (expr_pieces names b level.Factor) X Y Q f (x.1 n (omega arith)) (y.1 n (omega arith))) l

  add_case : (a b : Expr) (p : Place) → Claim a → Claim b → Claim (roll-Expr (expr.Add a b p))
  add_case a b p c d f h k l =
      let s = sides a b (λ x y. fits (Past p) (sum_of x y)) f (sym (fold-roll-Expr (Result Linear AffineFault) form_step (expr.Add a b p)) ∙ h) (sym (fold-roll-Expr Bool (below_step (length names)) (expr.Add a b p)) ∙ k) in
      rw (expr_laid names (expr.Add a b p) l, fold-roll-Expr Expr bare_expr_step (expr.Add a b p))
      (sum_shown a b _ _ _ l terminal.Plus refl
      (λ z t u is i j. rw (ap (has (terminal.Minus ∷ [])) is) (add_again src names p z.place (bare_expr a) (bare_expr b) s.left s.right f t u i j s.both))
      (c s.left s.on_left s.below_left level.Expression) (d s.right s.on_right s.below_right level.Addend))

  sub_case : (a b : Expr) (p : Place) → Claim a → Claim b → Claim (roll-Expr (expr.Sub a b p))
  sub_case a b p c d f h k l =
      let s = sides a b (λ x y. fits (Past p) (difference_of x y)) f (sym (fold-roll-Expr (Result Linear AffineFault) form_step (expr.Sub a b p)) ∙ h) (sym (fold-roll-Expr Bool (below_step (length names)) (expr.Sub a b p)) ∙ k) in
      rw (expr_laid names (expr.Sub a b p) l, fold-roll-Expr Expr bare_expr_step (expr.Sub a b p))
      (sum_shown a b _ _ _ l terminal.Minus refl
      (λ z t u is i j. rw (ap (has (terminal.Minus ∷ [])) is) (sub_again src names p z.place (bare_expr a) (bare_expr b) s.left s.right f t u i j s.both))
      (c s.left s.on_left s.below_left level.Expression) (d s.right s.on_right s.below_right level.Addend))

  mul_case : (a b : Expr) (p : Place) → Claim a → Claim b → Claim (roll-Expr (expr.Mul a b p))
  mul_case a b p c d f h k l =
      let s = sides a b (product p) f (sym (fold-roll-Expr (Result Linear AffineFault) form_step (expr.Mul a b p)) ∙ h) (sym (fold-roll-Expr Bool (below_step (length names)) (expr.Mul a b p)) ∙ k) in
      rw (expr_laid names (expr.Mul a b p) l, fold-roll-Expr Expr bare_expr_step (expr.Mul a b p))
      (product_shown a b _ _ _ l
      (λ z t u i j. mul_again src names p z.place (bare_expr a) (bare_expr b) s.left s.right f t u i j s.both)
      (c s.left s.on_left s.below_left level.Addend) (d s.right s.on_right s.below_right level.Factor))

  pub shown_expr : (x : Expr) → Claim x
  shown_expr x = by_cases Claim number_case name_case neg_case add_case sub_case mul_case x
