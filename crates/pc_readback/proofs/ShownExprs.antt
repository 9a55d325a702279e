-- The walk keeps the signs and the numbers of expressions.
use Rattle.std.proofs.Common.{◌≡◌, ℕ, ◌+◌, ℤ, refl, ap, sym, ◌∙◌, subst, arith, List, [], ◌∷◌, ◌++◌, Bool, true, false, Result, Ok, Err}
use Rattle.std.specs.Prelude.{◌&&◌, IfOk, negsuc, nat_le}
use Rattle.pc_text.specs.Bytes.{Bytes}
use Rattle.pc_text.specs.declared.place.Place.{Place}
use Rattle.pc_rows.specs.Linear.{Linear, sum_of, difference_of, scaled_by, fits}
use Rattle.pc_grammar.specs.declared.symbol.Symbol.{Symbol}
use Rattle.pc_language.specs.declared.terminal.Terminal.{Terminal}
use Rattle.pc_language.specs.declared.terminal.Terminal.TheVariants as terminal
use Rattle.pc_language.specs.declared.limits.TheConstants.{SIGNS}
use Rattle.pc_grammar.specs.declared.tree.ExprTree.{ExprTree, ExprTree-F, map-ExprTree, roll-ExprTree, fold-roll-ExprTree}
use Rattle.pc_grammar.specs.declared.tree.ExprTree.TheOpen as tree
use Rattle.pc_program.specs.declared.tree.Expr.{Expr}
use Rattle.pc_program.specs.declared.tree.Expr.TheVariants as e
use Rattle.pc_program.specs.declared.normal.AffineFault.{AffineFault}
use Rattle.pc_program.specs.declared.normal.AffineFault.TheVariants.{Past}
use Rattle.pc_syntax.specs.declared.fault.SourceFault.{SourceFault}
use Rattle.pc_syntax.specs.declared.walk.Formed.{Formed}
use Rattle.pc_show.specs.declared.showing.level.Level.{Level}
use Rattle.pc_show.specs.declared.showing.level.Level.TheVariants as level
use Rattle.pc_program.specs.Forms.{bind, variable, product}
use Rattle.pc_syntax.specs.Context.{resolved, formed, expr_step, checked_expr}
use Rattle.pc_show.specs.Pieces.{Piece, Mark}
use Rattle.pc_show.specs.Canonical.{wrapped, joined, spaced, wraps_negation, wraps_sum, wraps_product, expr_pieces}
use Rattle.pc_readback.specs.Showable as shown
use Rattle.pc_readback.specs.Showable.{signs_in, sign_weight}
use Rattle.pc_readback.specs.ShownTrees as short
use Rattle.pc_readback.specs.ShownTrees.{around}
use Rattle.pc_program.proofs.Results.{bind_keeps}
use Rattle.pc_syntax.proofs.Trees.{by_expr}
use Rattle.pc_program.proofs.Folds.{fold-num, fold-name, fold-neg, fold-add, fold-sub, fold-mul}
use Rattle.pc_show.proofs.Laid.{num_laid, name_laid, neg_laid, add_laid, sub_laid, mul_laid}

-- ---- the signs of pieces

pub signs-append : (ps qs : List Piece) → signs_in (ps ++ qs) ≡ signs_in ps + signs_in qs
signs-append [] qs = omega arith
signs-append (p ∷ ps) qs = let h = signs-append ps qs in omega arith

signs_wrapped : (w : Bool) (ps : List Piece) → signs_in (wrapped w ps) ≡ around w (signs_in ps)
signs_wrapped true ps = let h = signs-append ps (Mark terminal.CloseParen ∷ []) in omega arith
signs_wrapped false ps = refl

signs_joined : (ps qs : List Piece) (k : Terminal) → signs_in (joined ps k qs) ≡ signs_in ps + (sign_weight k + signs_in qs)
signs_joined ps qs k = let h = signs-append ps (spaced k ++ qs) in let g = signs-append (spaced k) qs in omega arith

-- ---- expressions

module _ (src : Bytes) (names : List Bytes) where
  -- an expression has the numbers and the signs of its tree
  pub record IsLike (t : ExprTree) (x : Expr) : Type 0 where
    pub literals : shown.has_literals x ≡ short.has_literals t
    pub signs : (l : Level) → signs_in (expr_pieces names x l) ≡ short.signs t l

  -- the same at the kind of the tree
  record IsLikeStep (t : ExprTree-F ExprTree) (x : Expr) : Type 0 where
    literals : shown.has_literals x ≡ short.literal_step (map-ExprTree ExprTree Bool short.has_literals t)
    signs : (l : Level) → signs_in (expr_pieces names x l) ≡ short.sign_step (map-ExprTree ExprTree (Level → ℕ) short.signs t) l

  rolled : (t : ExprTree-F ExprTree) (y : Formed) → IsLikeStep t y.expr → IsLike (roll-ExprTree t) y.expr
  rolled t y h = record {
    literals = h.literals ∙ sym (fold-roll-ExprTree Bool short.literal_step t);
    signs = λ l. h.signs l ∙ sym (ap (λ (f : Level → ℕ). f l) (fold-roll-ExprTree (Level → ℕ) short.sign_step t));
  }

  Walked : ExprTree → Type 0
  Walked t = IfOk (checked_expr src names t) (λ y. IsLike t y.expr)

  at_tree : (t : ExprTree-F ExprTree) → IfOk (expr_step src names (map-ExprTree ExprTree (Result Formed SourceFault) (checked_expr src names) t)) (λ y. IsLikeStep t y.expr) → Walked (roll-ExprTree t)
  unfolding Walked
  at_tree t h = subst (λ r. IfOk r (λ y. IsLike (roll-ExprTree t) y.expr)) (sym (fold-roll-ExprTree (Result Formed SourceFault) (expr_step src names) t))
      (by (expr_step src names (map-ExprTree ExprTree (Result Formed SourceFault) (checked_expr src names) t)) h)
    where
      by : (r : Result Formed SourceFault) → IfOk r (λ y. IsLikeStep t y.expr) → IfOk r (λ y. IsLike (roll-ExprTree t) y.expr)
      by (Ok y) k = rolled t y k
      by (Err f) k = tt

  formed_keeps : (Q : Expr → Type 0) (x : Expr) (r : Result Linear AffineFault) → Q x → IfOk (formed x r) (λ y. Q y.expr)
  formed_keeps Q x (Ok r) h = h
  formed_keeps Q x (Err f) h = tt

  num_like : (z : ℤ) → IsLikeStep (tree.Num z) (e.Num z)
  num_like z = record { literals = fold-num Bool shown.literal_step z; signs = λ l. ap signs_in (num_laid names z l) }

  name_like : (s : Symbol) (v : ℕ) → IsLikeStep (tree.Name s) (e.Name v)
  name_like s v = record { literals = fold-name Bool shown.literal_step v; signs = λ l. ap signs_in (name_laid names v l) }

  neg_like : (a : ExprTree) (p : Place) (x : Expr) → IsLike a x → IsLikeStep (tree.Neg a p) (e.Neg x p)
  neg_like a p x i = record {
    literals = fold-neg Bool shown.literal_step x p ∙ i.literals;
    signs = λ l. ap signs_in (neg_laid names x p l) ∙ signs_wrapped (wraps_negation l) (Mark terminal.Minus ∷ expr_pieces names x level.Atom) ∙
        ap (λ (n : ℕ). around (wraps_negation l) (1 + n)) (i.signs level.Atom);
  }

  module _ (a b : ExprTree) (p : Place) (x y : Expr) (i : IsLike a x) (j : IsLike b y) where
    both_literals : (shown.has_literals x && shown.has_literals y) ≡ (short.has_literals a && short.has_literals b)
    both_literals = ap (λ c. c && shown.has_literals y) i.literals ∙ ap (λ c. short.has_literals a && c) j.literals

    sides : (w : Bool) (k : Terminal) (l m : Level) → sign_weight k ≡ 1 →
        signs_in (wrapped w (joined (expr_pieces names x l) k (expr_pieces names y m))) ≡ around w (short.signs a l + (1 + short.signs b m))
    sides w k l m one =
        signs_wrapped w (joined (expr_pieces names x l) k (expr_pieces names y m)) ∙
        ap (around w) (signs_joined (expr_pieces names x l) (expr_pieces names y m) k ∙ rw (i.signs l, j.signs m, one) refl)

    add_like : IsLikeStep (tree.Add a b p) (e.Add x y p)
    add_like = record {
      literals = fold-add Bool shown.literal_step x y p ∙ both_literals;
      signs = λ l. ap signs_in (add_laid names x y p l) ∙ sides (wraps_sum l) terminal.Plus level.Expression level.Addend refl;
    }

    sub_like : IsLikeStep (tree.Sub a b p) (e.Sub x y p)
    sub_like = record {
      literals = fold-sub Bool shown.literal_step x y p ∙ both_literals;
      signs = λ l. ap signs_in (sub_laid names x y p l) ∙ sides (wraps_sum l) terminal.Minus level.Expression level.Addend refl;
    }

    mul_like : IsLikeStep (tree.Mul a b p) (e.Mul x y p)
    mul_like = record {
      literals = fold-mul Bool shown.literal_step x y p ∙ both_literals;
      signs = λ l. ap signs_in (mul_laid names x y p l) ∙ sides (wraps_product l) terminal.Star level.Addend level.Factor refl;
    }

  both_walked : (t : ExprTree-F ExprTree) (a b : ExprTree) (f : Formed → Formed → Result Formed SourceFault) →
      ((x y : Formed) → IsLike a x.expr → IsLike b y.expr → IfOk (f x y) (λ z. IsLikeStep t z.expr)) → Walked a → Walked b →
      IfOk (bind (checked_expr src names a) (λ x. bind (checked_expr src names b) (λ y. f x y))) (λ z. IsLikeStep t z.expr)
  unfolding Walked
  both_walked t a b f step h k =
      bind_keeps (λ x. IsLike a x.expr) (λ z. IsLikeStep t z.expr) (checked_expr src names a) _
      (λ x i. bind_keeps (λ y. IsLike b y.expr) (λ z. IsLikeStep t z.expr) (checked_expr src names b) _ (λ y j. step x y i j) k) h

  named : (s : Symbol) → IfOk (expr_step src names (tree.Name s)) (λ y. IsLikeStep (tree.Name s) y.expr)
  named s = by (resolved src names s)
    where
      by : (r : Result ℕ SourceFault) → IfOk {T = Formed} {E = SourceFault} (bind r (λ v. Ok (record { expr = e.Name v; form = variable v }))) (λ y. IsLikeStep (tree.Name s) y.expr)
      by (Ok v) = name_like s v
      by (Err f) = tt

  negated : (a : ExprTree) (p : Place) → Walked a → IfOk (expr_step src names (tree.Neg (checked_expr src names a) p)) (λ y. IsLikeStep (tree.Neg a p) y.expr)
  unfolding Walked
  negated a p h = bind_keeps (λ x. IsLike a x.expr) (λ z. IsLikeStep (tree.Neg a p) z.expr) (checked_expr src names a) _
      (λ x i. formed_keeps (IsLikeStep (tree.Neg a p)) (e.Neg x.expr p) (fits (Past p) (scaled_by (negsuc 0) x.form)) (neg_like a p x.expr i)) h

  expr_walked : (t : ExprTree) → Walked t
  expr_walked t = by_expr Walked
      (λ z. at_tree (tree.Num z) (num_like z))
      (λ s. at_tree (tree.Name s) (named s))
      (λ a p h. at_tree (tree.Neg a p) (negated a p h))
      (λ a b p h k. at_tree (tree.Add a b p) (both_walked (tree.Add a b p) a b (λ x y. formed (e.Add x.expr y.expr p) (fits (Past p) (sum_of x.form y.form)))
      (λ x y i j. formed_keeps (IsLikeStep (tree.Add a b p)) (e.Add x.expr y.expr p) _ (add_like a b p x.expr y.expr i j)) h k))
      (λ a b p h k. at_tree (tree.Sub a b p) (both_walked (tree.Sub a b p) a b (λ x y. formed (e.Sub x.expr y.expr p) (fits (Past p) (difference_of x.form y.form)))
      (λ x y i j. formed_keeps (IsLikeStep (tree.Sub a b p)) (e.Sub x.expr y.expr p) _ (sub_like a b p x.expr y.expr i j)) h k))
      (λ a b p h k. at_tree (tree.Mul a b p) (both_walked (tree.Mul a b p) a b (λ x y. formed (e.Mul x.expr y.expr p) (product p x.form y.form))
      (λ x y i j. formed_keeps (IsLikeStep (tree.Mul a b p)) (e.Mul x.expr y.expr p) _ (mul_like a b p x.expr y.expr i j)) h k))
      t

  -- an expression passes its test where its tree does
  pub walked_like : (t : ExprTree) → IfOk (checked_expr src names t) (λ y. shown.shown_expr names y.expr ≡ short.short_expr t)
  unfolding Walked
  walked_like t = by (checked_expr src names t) (expr_walked t)
    where
      by : (r : Result Formed SourceFault) → IfOk r (λ y. IsLike t y.expr) → IfOk r (λ y. shown.shown_expr names y.expr ≡ short.short_expr t)
      by (Ok y) i = ap (λ b. b && nat_le (shown.signs_of names y.expr) SIGNS) i.literals ∙ ap (λ (n : ℕ). short.has_literals t && nat_le n SIGNS) (i.signs level.Expression)
      by (Err f) i = tt
