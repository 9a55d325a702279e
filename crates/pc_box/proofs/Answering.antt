-- Without loops the fold of the views of boxes is the box at each point.
use Rattle.std.proofs.Common.{◌≡◌, ◌∙◌, ℕ, zero, suc, ◌+◌, ◌-◌, ◌<◌, List, [], ◌∷◌, ◌++◌, length, length-append, map, sym, refl, ap, subst, Some, None, Option, slice_get, arith, inl, inr}
use Rattle.std.specs.Prelude.{◌⊎◌, ◌==◌, slice_index_or}
use Rattle.std.specs.Option.{option_map}
use Rattle.std.proofs.lemmas.Bool.{eqb-true}
use Rattle.std.proofs.lemmas.List.{length-map, get_or_push}
use Rattle.std.proofs.lemmas.Option.{slice_get-map, slice_get-get_or}
use Rattle.std.proofs.Math.ListN.{get_or-append}
use Rattle.pc_flow.specs.declared.what.What.{What}
use Rattle.pc_flow.specs.Arc.{Arc}
use Rattle.pc_flow.specs.Flow.{Flow}
use Rattle.pc_flow.specs.Incidence.{entering}
use Rattle.pc_flow.specs.Lists.{In}
use Rattle.pc_flow.specs.Shape.{NoHeads, IsGraph}
use Rattle.pc_domain.specs.Fold.{Brings, Folds, FlowsTo, IsFold}
use Rattle.pc_domain.specs.View.{View}
use Rattle.pc_domain.proofs.Heads.{always_rises, has_entry}
use Rattle.pc_domain.proofs.Options.{some_is}
use Rattle.pc_domain.proofs.Picking.{picked_in}
use Rattle.pc_domain.proofs.Places.{same_items}
use Rattle.pc_box.specs.Boxes.{Box, join_of, rows_of}
use Rattle.pc_box.specs.Forward.{after_of}
use Rattle.pc_box.specs.Views.{view_of, box_of, box_says}
use Rattle.pc_box.specs.BoxAt.{hull_over, boxes_to, boxes_of, box_at}
use Rattle.pc_box.specs.Laws.{FoldIsBoxAt, RowsAreBoxRows}
use Rattle.pc_box.proofs.Viewing.{box_view}

-- the view at a point is that of its box
abbrev At : List View → List Box → ℕ → Type 0
At views boxes q = slice_get views q ≡ Some (view_of (slice_index_or boxes q None))

brings_box : (o : Option View) (e : What) (v w : View) (b u : Box) → o ≡ Some (view_of u) → v ≡ view_of b → Brings box_says.after box_says.join o e v w → w ≡ view_of (join_of b (after_of e u))
brings_box None e v w b u at is h = absurd (cc)
brings_box (Some x) e v w b u at is h =
    let same : x ≡ view_of u = cc in
    let source : box_of x ≡ u = ap box_of same ∙ box_view u in
    let after : box_of h.0 ≡ after_of e u = ap box_of h.1 ∙ box_view (after_of e (box_of x)) ∙ ap (after_of e) source in
    let so_far : box_of v ≡ b = ap box_of is ∙ box_view b in
    h.2 ∙ ap (λ (z : Box). view_of (join_of z (box_of h.0))) so_far ∙ ap (λ (z : Box). view_of (join_of b z)) after

folds_box : (views : List View) (boxes : List Box) (edges : List Arc) (v w : View) (b : Box) → ((e : Arc) → In e edges → At views boxes e.from) → v ≡ view_of b →
    Folds box_says.after box_says.join (λ e. e.from) views edges v w → w ≡ view_of (hull_over boxes edges b)
folds_box views boxes [] v w b at is h = h ∙ is
folds_box views boxes (e ∷ edges) v w b at is h =
    folds_box views boxes edges h.0 w (join_of b (after_of e.what (slice_index_or boxes e.from None))) (λ x m. at x (inr m))
    (brings_box (slice_get views e.from) e.what v h.0 b (slice_index_or boxes e.from None) (at e (inl refl)) is h.1) h.2

boxes_long : (g : Flow) (n : ℕ) → length (boxes_to g n) ≡ n + 1
boxes_long g zero = refl
boxes_long g (suc n) = let r = boxes_long g n in omega (arith, length-append (boxes_to g n) (hull_over (boxes_to g n) (entering (suc n) g.edges) None ∷ []))

module _ (g : Flow) (views : List View) (graph : IsGraph g) (none : NoHeads g.points) (fold : IsFold box_says g views) where
  from_below : (p : ℕ) (e : Arc) → In e (entering p g.edges) → e.from < p
  from_below p e m =
      let picked = picked_in (λ (x : Arc). x.to == p) e g.edges m in
      let to : e.to ≡ p = eqb-true e.to p picked.1 in
      subst (λ (q : ℕ). e.from < q) to (always_rises g graph none e picked.0)

  same_to : (n : ℕ) → n < length g.points → (p : ℕ) → p < n + 1 → At views (boxes_to g n) p
  same_to zero lt p h =
      let first : p ≡ 0 = omega arith in
      let e = some_is (slice_get views 0) (box_says.everything g.variables) fold.entry in
      subst (At views (boxes_to g 0)) (sym first) (e.1 ∙ ap Some e.2)
  same_to (suc n) lt p h = by (same_to n (omega arith)) (let either : (p ≡ suc n) ⊎ (p < suc n) = grind arith in either)
    where
      by : ((q : ℕ) → q < n + 1 → At views (boxes_to g n) q) → (p ≡ suc n) ⊎ (p < suc n) → At views (boxes_to g n ++ hull_over (boxes_to g n) (entering (suc n) g.edges) None ∷ []) p
      by before (inr below) =
          before p (omega arith)
          ∙ ap (λ (z : Box). Some (view_of z)) (sym (get_or-append (boxes_to g n) (hull_over (boxes_to g n) (entering (suc n) g.edges) None ∷ []) None p (let l = boxes_long g n in omega arith)))
      by before (inl is) =
          let e = some_is (slice_get views (suc n)) (FlowsTo box_says g views (suc n)) (fold.points (suc n) (omega arith) lt) in
          let w = folds_box views (boxes_to g n) (entering (suc n) g.edges) e.2.0 e.0 None (λ x m. before x.from (let low = from_below (suc n) x m in omega arith)) e.2.1 e.2.2 in
          subst (At views (boxes_to g n ++ hull_over (boxes_to g n) (entering (suc n) g.edges) None ∷ [])) (sym is)
          (e.1 ∙ ap Some w ∙ ap (λ (z : Box). Some (view_of z)) (sym (get_or_push (boxes_to g n) (hull_over (boxes_to g n) (entering (suc n) g.edges) None) None (suc n) (let l = boxes_long g n in omega arith))))

  each_at : (p : ℕ) → p < length g.points → slice_get views p ≡ Some (view_of (box_at g p))
  each_at p lt = let some = has_entry g graph in same_to (length g.points - 1) (omega arith) p (omega arith)

  views_are : views ≡ map view_of (boxes_of g)
  views_are =
      let long = fold.long in
      let some = has_entry g graph in
      let l = boxes_long g (length g.points - 1) in
      let m = length-map (boxes_of g) view_of in
      same_items views (map view_of (boxes_of g)) (omega arith)
      (λ p lt. each_at p (omega arith) ∙ sym (slice_get-map view_of (boxes_of g) p ∙ ap (option_map view_of) (slice_get-get_or (boxes_of g) p None (omega arith))))

pub fold_is_box_at : FoldIsBoxAt
fold_is_box_at g views graph none fold = record { whole = views_are g views graph none fold; each = each_at g views graph none fold }

pub rows_are_box_rows : RowsAreBoxRows
rows_are_box_rows g p rows h = h ∙ ap rows_of (box_view (box_at g p))
