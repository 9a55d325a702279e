-- Without tests and loops the boxes going back have exactly the states from which no walk comes to an assertion that does not hold.
use Rattle.std.proofs.Common.{◌≡◌, ◌∙◌, ℕ, zero, suc, ◌+◌, ◌-◌, ◌*◌, ◌<◌, ◌≤◌, List, [], ◌∷◌, length, Some, None, slice_get, refl, sym, ap, subst, arith, eq-eqb}
use Rattle.std.specs.Prelude.{◌↔◌, ◌==◌, slice_index_or}
use Rattle.std.specs.List.{AllByRecursion as Each}
use Rattle.std.proofs.lemmas.Bool.{eqb-true}
use Rattle.std.proofs.lemmas.Option.{slice_get-get_or}
use Rattle.pc_rows.specs.Linear.{Linear, State, MeetsAll, zero_from}
use Rattle.pc_rows.proofs.First.{zero_from_entry}
use Rattle.pc_flow.specs.declared.what.What.TheVariants.{Enter}
use Rattle.pc_flow.specs.Arc.{Arc}
use Rattle.pc_flow.specs.Flow.{Flow}
use Rattle.pc_flow.specs.Incidence.{leaving}
use Rattle.pc_flow.specs.Lists.{In}
use Rattle.pc_flow.specs.Shape.{IsGraph}
use Rattle.pc_flow.specs.Walk.{Walk, IsEntry, GraphSafe, entered}
use Rattle.pc_flow.proofs.Carrying.{same_length}
use Rattle.pc_flow.proofs.Closed.{closed_is_safe}
use Rattle.pc_flow.proofs.Lists.{each_at}
use Rattle.pc_domain.specs.Fold.{EbbsTo, IsBackFold}
use Rattle.pc_domain.specs.View.{View}
use Rattle.pc_domain.proofs.Entered.{entered_long, met_entered}
use Rattle.pc_domain.proofs.Heads.{has_entry}
use Rattle.pc_domain.proofs.Options.{some_is}
use Rattle.pc_domain.proofs.Picking.{picked_in, in_picked}
use Rattle.pc_box.specs.Boxes.{Box, HasBox, IsNarrow}
use Rattle.pc_box.specs.Backward.{before_of, box_back_says}
use Rattle.pc_box.specs.Views.{view_of, box_of, boundless}
use Rattle.pc_box.specs.Exact.{small_bound, IsExactEdge, BoxesBackAreExact}
use Rattle.pc_box.proofs.Backs.{box_before}
use Rattle.pc_box.proofs.Sharp.{before_keeps}
use Rattle.pc_box.proofs.Small.{BoxIsSmall, box_more}
use Rattle.pc_box.proofs.Telling.{box_rows_met, box_rows_tell}
use Rattle.pc_box.proofs.Viewing.{box_view}
use Rattle.pc_box.proofs.BackFolds.{box_at_point, folds_exact, folds_small}
use Rattle.pc_box.proofs.Enters.{narrow_for}
use Rattle.pc_box.proofs.Growing.{before_small}

-- how far the bounds of a box grow over an edge
abbrev growth : ℕ
growth = small_bound + small_bound

module _ (g : Flow) (views : List View) (graph : IsGraph g) (exact : Each (IsExactEdge g) g.edges) (fold : IsBackFold box_back_says g views) where
  edge_at : (e : Arc) → In e g.edges → IsExactEdge g e
  edge_at e m = each_at (IsExactEdge g) g.edges e exact m

  leaves : (p : ℕ) (e : Arc) → In e (leaving p g.edges) → In e g.edges × (e.from ≡ p)
  leaves p e m = let picked = picked_in (λ (x : Arc). x.from == p) e g.edges m in (picked.0, eqb-true e.from p picked.1)

  within : (p : ℕ) (e : Arc) → In e (leaving p g.edges) → e.to < length views
  within p e m = let reach = (edge_at e (leaves p e m).0).straight.within in let long = fold.long in omega arith

  -- the box at a point, as the fold has it
  at_point : (p : ℕ) → p < length g.points → (w : View) × (slice_index_or views p None ≡ w) × EbbsTo box_back_says g views p w
  at_point p lt =
      let w = some_is (slice_get views p) (EbbsTo box_back_says g views p) (fold.points p lt) in
      let got = slice_get-get_or views p None (let long = fold.long in omega arith) in
      (w.0, (let a = w.1 in let same : Some (slice_index_or views p None) ≡ Some w.0 = sym got ∙ a in let is : slice_index_or views p None ≡ w.0 = cc in is), w.2)

  everything : (v : View) → v ≡ view_of (boundless g.variables) → box_of v ≡ boundless g.variables
  everything v is = ap box_of is ∙ box_view (boundless g.variables)

  point_exact : (p : ℕ) → p < length g.points → (s : State) →
      HasBox (box_at_point views p) s ↔ ((e : Arc) → In e (leaving p g.edges) → HasBox (before_of e.what (box_at_point views e.to)) s)
  point_exact p lt s =
      let w = at_point p lt in
      let law = folds_exact views (leaving p g.edges) w.2.0 w.0 (within p) w.2.2 s in
      let all : HasBox (box_of w.2.0) s = subst (λ (z : Box). HasBox z s) (sym (everything w.2.0 w.2.1)) (λ v. (tt, tt)) in (
        (λ has. (law.0 (subst (λ (z : View). HasBox (box_of z) s) w.1 has)).1),
        (λ k. subst (λ (z : View). HasBox (box_of z) s) (sym w.1) (law.1 (all, k))),
      )

  -- the bounds of boxes n points below the last one
  small_at : (n p : ℕ) → p < length g.points → length g.points ≤ p + n → BoxIsSmall (n * growth) (box_at_point views p)
  small_at zero p lt le = absurd (omega arith)
  small_at (suc n) p lt le =
      let w = at_point p lt in
      let k = suc n * growth in
      let all : BoxIsSmall k (box_of w.2.0) = subst (BoxIsSmall k) (sym (everything w.2.0 w.2.1)) (λ v. (tt, tt)) in
      subst (λ (z : View). BoxIsSmall k (box_of z)) (sym w.1)
      (folds_small views k (leaving p g.edges) w.2.0 w.0 (within p) w.2.2 all
      (λ e m. next e (leaves p e m).0 (small_at n e.to (edge_at e (leaves p e m).0).straight.within
      (let up = (edge_at e (leaves p e m).0).straight.rises in let from = (leaves p e m).1 in omega arith))))
    where
      next : (e : Arc) → In e g.edges → BoxIsSmall (n * growth) (box_at_point views e.to) → BoxIsSmall (suc n * growth) (before_of e.what (box_at_point views e.to))
      next e m small = box_more (n * growth + growth) (suc n * growth) (before_of e.what (box_at_point views e.to)) (omega arith) (before_small (n * growth) e.what (box_at_point views e.to) (edge_at e m).small small)

  -- a state from which every walk keeps each assertion is in the box at its point
  module _ (s : State) (safe : GraphSafe g s) where
    safe_has : (n p : ℕ) (t : State) (es : List Arc) → length g.points ≤ p + n → n ≤ length g.points → p < length g.points → Walk g s es p t → length t ≡ g.variables → HasBox (box_at_point views p) t
    safe_has zero p t es le few lt walk long = absurd (omega arith)
    safe_has (suc n) p t es le few lt walk long = (point_exact p lt t).1 (λ e m. over e (leaves p e m).0 (leaves p e m).1 (λ u. safe_has n e.to u (e ∷ es)))
      where
        over : (e : Arc) → In e g.edges → e.from ≡ p →
            ((u : State) → length g.points ≤ e.to + n → n ≤ length g.points → e.to < length g.points → Walk g s (e ∷ es) e.to u → length u ≡ g.variables → HasBox (box_at_point views e.to) u) →
            HasBox (before_of e.what (box_at_point views e.to)) t
        over e m from go =
            let edge = edge_at e m in
            let here : Walk g s es e.from t = subst (λ (q : ℕ). Walk g s es q t) (sym from) walk in
            let up = edge.straight.rises in
            before_keeps e.what (box_at_point views e.to) t (n * growth) edge.straight.free edge.straight.fits (edge.straight.assigns t long) edge.one edge.small
            (small_at n e.to edge.straight.within (omega arith))
            (let points = graph.points in let edges = graph.edges in omega arith)
            (safe es e.from t here e m refl)
            (λ u pass. go u (omega arith) (omega arith) edge.straight.within (refl, m, (t, pass, here)) (same_length e.what t u pass ∙ long))

  -- and from the states of the boxes every walk keeps each assertion
  has_safe : (s : State) → IsEntry g s → HasBox (box_at_point views 0) (entered g s) → GraphSafe g s
  has_safe s entry has =
      closed_is_safe g (λ p t. (length t ≡ g.variables) × (p < length g.points) × HasBox (box_at_point views p) t) s
      (λ e m t h.
      let edge = edge_at e m in
      let among = in_picked (λ (x : Arc). x.from == e.from) e g.edges m (eq-eqb e.from e.from refl) in
      let pays = box_before e.what (box_at_point views e.to) t (edge.straight.assigns t h.0) ((point_exact e.from h.1 t).0 h.2 e among) in
      (pays.0, λ u pass. (same_length e.what t u pass ∙ h.0, edge.straight.within, pays.1 u pass)))
      (entered_long g s graph.parameters entry, has_entry g graph, has)

  -- what the rows of the entry say
  rows_exact : (rows : List Linear) → box_back_says.rows (slice_index_or views 0 None) g.params rows → (s : State) → IsEntry g s → MeetsAll s rows ↔ GraphSafe g s
  rows_exact rows told s entry = (
    (λ met.
        let inside = box_rows_tell before narrow start (subst (MeetsAll start) told ((met_entered g rows s).0 met)) in
        has_safe s entry (subst (HasBox first) zeros ((box_before (Enter g.params) first start tt inside).1 (zero_from g.params start) refl))),
    (λ safe.
        let some = has_entry g graph in
        let has = safe_has s safe (length g.points) 0 start [] (omega arith) (omega arith) some (refl, refl) (entered_long g s graph.parameters entry) in
        let inside = before_keeps (Enter g.params) first start (length g.points * growth) tt (let few = graph.parameters in let most = graph.variables in omega arith) tt tt tt
        (small_at (length g.points) 0 some (omega arith)) (let points = graph.points in let edges = graph.edges in omega arith) tt (λ t pass. subst (HasBox first) (sym (pass ∙ zeros)) has) in
        (met_entered g rows s).1 (subst (MeetsAll start) (sym told) (box_rows_met before narrow start inside))),
  )
    where
      first : Box
      first = box_at_point views 0

      before : Box
      before = before_of (Enter g.params) first

      start : State
      start = entered g s

      narrow : IsNarrow before
      narrow = narrow_for g.params first (let few = graph.parameters in let most = graph.variables in omega arith)

      zeros : zero_from g.params start ≡ start
      zeros = zero_from_entry g.params (g.variables - g.params) s entry

pub boxes_back_are_exact : BoxesBackAreExact
boxes_back_are_exact g views rows s graph none exact fold told entry =
    let first = some_is (slice_get views 0) (λ v. box_back_says.rows v g.params rows) told in
    let got = slice_get-get_or views 0 None (let long = fold.long in let some = has_entry g graph in omega arith) in
    let same : Some first.0 ≡ Some (slice_index_or views 0 None) = sym first.1 ∙ got in
    let is : first.0 ≡ slice_index_or views 0 None = cc in
    rows_exact g views graph exact fold rows (subst (λ (v : View). box_back_says.rows v g.params rows) is first.2) s entry
