-- The text of an expression, a push at a time.
use Rattle.std.proofs.Common.{◌≡◌, ℕ, refl, ap, sym, ◌∙◌, List, [], ◌∷◌, ◌++◌, append_assoc, Bool, true, false, cond, Some, append-nil, ◌⊎◌, inl, inr}
use Rattle.std.specs.Prelude.{slice_get}
use Rattle.std.proofs.lemmas.Option.{get_or_from_slice_get}
use Rattle.std.proofs.lemmas.Grind.{flat_map-append}
use Rattle.pc_text.specs.Bytes.{Bytes}
use Rattle.pc_text.specs.declared.place.Place.{Place}
use Rattle.pc_language.specs.declared.terminal.Terminal.{Terminal}
use Rattle.pc_language.specs.declared.terminal.Terminal.TheVariants as terminal
use Rattle.pc_program.specs.declared.tree.Expr.{Expr}
use Rattle.pc_program.specs.declared.tree.Expr.TheVariants as e
use Rattle.pc_show.specs.declared.showing.level.Level.{Level}
use Rattle.pc_show.specs.declared.showing.level.Level.TheVariants as level
use Rattle.pc_show.specs.Pieces.{Piece, Mark, Name, bytes_of, spelled}
use Rattle.pc_show.specs.Canonical.{wraps_sum, wraps_product, wraps_negation, wrapped, joined, spaced, sum_sign_step, sum_sign, expr_pieces}
use Rattle.pc_program.proofs.Folds.{fold-add, fold-sub}
use Rattle.pc_show.proofs.Laid.{name_laid, neg_laid, add_laid, sub_laid, mul_laid}

abbrev before : Bool → Bytes
before w = cond w (40 ∷ []) []

abbrev behind : Bool → Bytes
behind w = cond w (41 ∷ []) []

wrapped_text : (w : Bool) (ps : List Piece) → bytes_of (wrapped w ps) ≡ before w ++ (bytes_of ps ++ behind w)
wrapped_text true ps = simp flat_map-append
wrapped_text false ps = sym (append-nil (bytes_of ps))

wrapped_done : (w : Bool) (ps : List Piece) (u t0 t1 t2 t3 : Bytes) → t1 ≡ t0 ++ before w → t2 ≡ t1 ++ u → u ≡ bytes_of ps → t3 ≡ t2 ++ behind w → t3 ≡ t0 ++ bytes_of (wrapped w ps)
wrapped_done w ps u t0 t1 t2 t3 a b d f = rw (f, b, a, d, wrapped_text w ps) (simp append_assoc)

joined_text : (ps qs : List Piece) (k : Terminal) → bytes_of (joined ps k qs) ≡ bytes_of ps ++ (bytes_of (spaced k) ++ bytes_of qs)
joined_text ps qs k = flat_map-append spelled ps (spaced k ++ qs) ∙ ap (λ z. bytes_of ps ++ z) (flat_map-append spelled (spaced k) qs)

joined_done : (w : Bool) (ps qs : List Piece) (k : Terminal) (t0 t1 t2 t3 t4 t5 : Bytes) →
    t1 ≡ t0 ++ before w → t2 ≡ t1 ++ bytes_of ps → t3 ≡ t2 ++ bytes_of (spaced k) → t4 ≡ t3 ++ bytes_of qs → t5 ≡ t4 ++ behind w → t5 ≡ t0 ++ bytes_of (wrapped w (joined ps k qs))
joined_done w ps qs k t0 t1 t2 t3 t4 t5 a b d f g =
    wrapped_done w (joined ps k qs) (bytes_of ps ++ (bytes_of (spaced k) ++ bytes_of qs)) t0 t1 t4 t5 a (rw (f, d, b) (simp append_assoc)) (sym (joined_text ps qs k)) g

add_sign : (a b : Expr) (p : Place) → sum_sign (e.Add a b p) ≡ terminal.Plus
add_sign a b p = fold-add Terminal sum_sign_step a b p

sub_sign : (a b : Expr) (p : Place) → sum_sign (e.Sub a b p) ≡ terminal.Minus
sub_sign a b p = fold-sub Terminal sum_sign_step a b p

module _ (names : List Bytes) (x : Expr) (l : Level) where
  pub name_done : (v : ℕ) (w t0 t1 : Bytes) → x ≡ e.Name v → slice_get names v ≡ Some w → t1 ≡ t0 ++ w → t1 ≡ t0 ++ bytes_of (expr_pieces names x l)
  name_done v w t0 t1 is at h =
      let name = get_or_from_slice_get names v w [] at in
      h ∙ ap (λ z. t0 ++ z) (sym (append-nil w) ∙ ap (λ (z : Bytes). bytes_of (Name z ∷ [])) (sym name) ∙ ap bytes_of (sym (name_laid names v l)) ∙ ap (λ z. bytes_of (expr_pieces names z l)) (sym is))

  module _ (w : Bool) (a a' : Expr) (same : a' ≡ a) (t0 t1 t2 t3 : Bytes) where
    pub neg_done : (p : Place) (t4 : Bytes) → x ≡ e.Neg a p → w ≡ wraps_negation l →
        t1 ≡ t0 ++ before w → t2 ≡ t1 ++ (45 ∷ []) → t3 ≡ t2 ++ bytes_of (expr_pieces names a' level.Atom) → t4 ≡ t3 ++ behind w → t4 ≡ t0 ++ bytes_of (expr_pieces names x l)
    neg_done p t4 is wraps g h i j =
        let laid : expr_pieces names x l ≡ wrapped w (Mark terminal.Minus ∷ expr_pieces names a' level.Atom) = rw (is, same, wraps) (neg_laid names a p l) in
        rw laid (wrapped_done w (Mark terminal.Minus ∷ expr_pieces names a' level.Atom) ((45 ∷ []) ++ bytes_of (expr_pieces names a' level.Atom)) t0 t1 t3 t4 g (rw (i, h) (simp append_assoc)) refl j)

    module _ (t4 t5 : Bytes) (b b' : Expr) (alike : b' ≡ b) where
      pub sum_done : (((q : Place) × (x ≡ e.Add a b q)) ⊎ ((q : Place) × (x ≡ e.Sub a b q))) → w ≡ wraps_sum l →
          t1 ≡ t0 ++ before w → t2 ≡ t1 ++ bytes_of (expr_pieces names a' level.Expression) → t3 ≡ t2 ++ bytes_of (spaced (sum_sign x)) →
          t4 ≡ t3 ++ bytes_of (expr_pieces names b' level.Addend) → t5 ≡ t4 ++ behind w → t5 ≡ t0 ++ bytes_of (expr_pieces names x l)
      sum_done is wraps g h i j k =
          let laid : expr_pieces names x l ≡ wrapped w (joined (expr_pieces names a' level.Expression) (sum_sign x) (expr_pieces names b' level.Addend)) = by is in
          rw laid (joined_done w (expr_pieces names a' level.Expression) (expr_pieces names b' level.Addend) (sum_sign x) t0 t1 t2 t3 t4 t5 g h i j k)
        where
          by : (((q : Place) × (x ≡ e.Add a b q)) ⊎ ((q : Place) × (x ≡ e.Sub a b q))) →
              expr_pieces names x l ≡ wrapped w (joined (expr_pieces names a' level.Expression) (sum_sign x) (expr_pieces names b' level.Addend))
          by (inl (q, is)) = rw (is, same, alike, wraps, add_sign a b q) (add_laid names a b q l)
          by (inr (q, is)) = rw (is, same, alike, wraps, sub_sign a b q) (sub_laid names a b q l)

      pub mul_done : (p : Place) → x ≡ e.Mul a b p → w ≡ wraps_product l →
          t1 ≡ t0 ++ before w → t2 ≡ t1 ++ bytes_of (expr_pieces names a' level.Addend) → t3 ≡ t2 ++ (32 ∷ 42 ∷ 32 ∷ []) →
          t4 ≡ t3 ++ bytes_of (expr_pieces names b' level.Factor) → t5 ≡ t4 ++ behind w → t5 ≡ t0 ++ bytes_of (expr_pieces names x l)
      mul_done p is wraps g h i j k =
          let laid : expr_pieces names x l ≡ wrapped w (joined (expr_pieces names a' level.Addend) terminal.Star (expr_pieces names b' level.Factor)) = rw (is, same, alike, wraps) (mul_laid names a b p l) in
          rw laid (joined_done w (expr_pieces names a' level.Addend) (expr_pieces names b' level.Factor) terminal.Star t0 t1 t2 t3 t4 t5 g h i j k)
