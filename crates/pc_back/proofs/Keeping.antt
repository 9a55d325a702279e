-- Without loops and with tame numbers the fold of views is what the points need.
use Rattle.std.proofs.Common.{◌≡◌, ◌∙◌, ℕ, zero, suc, ◌+◌, ◌<◌, ◌≤◌, List, [], ◌∷◌, length, map, sym, ap, subst, cond, Bool, Some, slice_get, arith, inl, inr}
use Rattle.std.specs.Prelude.{◌⊎◌, ◌==◌}
use Rattle.std.specs.List.{AllByRecursion as Each}
use Rattle.std.specs.Option.{option_map}
use Rattle.std.proofs.lemmas.Bool.{eqb-true}
use Rattle.std.proofs.lemmas.List.{length-map}
use Rattle.std.proofs.lemmas.Option.{slice_get-map, slice_get-get_or, slice_get_within}
use Rattle.pc_rows.proofs.Counting.{count_most}
use Rattle.pc_rows.proofs.Joining.{each_left, each_right}
use Rattle.pc_flow.specs.Arc.{Arc}
use Rattle.pc_flow.specs.Exact.{PointRows}
use Rattle.pc_flow.specs.Flow.{Flow}
use Rattle.pc_flow.specs.Incidence.{leaving}
use Rattle.pc_flow.specs.Lists.{In}
use Rattle.pc_flow.specs.Shape.{NoHeads, IsGraph, IsCheck, IsAloneIfCheck, ChecksAlone}
use Rattle.pc_flow.proofs.Lists.{each_at, each_of_members}
use Rattle.pc_domain.specs.Fold.{EbbsTo, IsBackFold}
use Rattle.pc_domain.specs.View.{View}
use Rattle.pc_domain.proofs.Heads.{leads_of, always_rises}
use Rattle.pc_domain.proofs.Options.{some_is}
use Rattle.pc_domain.proofs.Picking.{picked_in}
use Rattle.pc_domain.proofs.Places.{same_items}
use Rattle.pc_lower.specs.Annotation.{no_rows}
use Rattle.pc_lower.specs.Need.{demanded, need}
use Rattle.pc_lower.specs.Operations.{Joins, Fits, carries, edge_operations, edges_operations, point_operations, operations_below}
use Rattle.pc_lower.specs.Tame.{AreTame, IsTame}
use Rattle.pc_lower.proofs.Meaning.{need_is, need_long}
use Rattle.pc_lower.proofs.Paying.{no_head}
use Rattle.pc_lower.proofs.Tameness.{no_tame, tame_need_fits}
use Rattle.pc_lower.proofs.Variables.{each_rows_at}
use Rattle.pc_back.specs.Laws.{needed, AreNeeds, NeedIsKept}
use Rattle.pc_back.specs.Needs.{Rowed, HasNeed, EntryIs}
use Rattle.pc_back.specs.Views.{view_of, view_of_rows, rowed_of, need_says}
use Rattle.pc_back.proofs.Viewing.{rowed_told}
use Rattle.pc_back.proofs.Gathering.{At, HasRoom, few_unless_check, folds_need}

-- ---- the operations at one point are among those of all points

operations_at : (g : Flow) (a : PointRows) (n p : ℕ) → p < n → Each Fits (operations_below g a n) → Each Fits (point_operations g a p)
operations_at g a zero p lt fit = absurd (omega arith)
operations_at g a (suc n) p lt fit = by (let either : (p ≡ n) ⊎ (p < n) = grind arith in either) (λ below. operations_at g a n p below (each_right Fits (point_operations g a n) (operations_below g a n) fit))
  where
    by : (p ≡ n) ⊎ (p < n) → (p < n → Each Fits (point_operations g a p)) → Each Fits (point_operations g a p)
    by (inl same) go = subst (λ (q : ℕ). Each Fits (point_operations g a q)) (sym same) (each_left Fits (point_operations g a n) (operations_below g a n) fit)
    by (inr below) go = go below

module _ (g : Flow) (graph : IsGraph g) (none : NoHeads g.points) (alone : ChecksAlone g) (tame : IsTame g) where
  point_fits : (p : ℕ) → p < length g.points → Each Fits (edges_operations (needed g) [] (leaving p g.edges))
  point_fits p lt =
      subst (λ (t : Bool). Each Fits (cond t [] (edges_operations (needed g) [] (leaving p g.edges)))) (no_head g.points p none)
      (operations_at g (needed g) (length g.points) p lt (tame_need_fits g (no_rows g.points) graph none tame))

  room_at : (p : ℕ) → p < length g.points → (e : Arc) → In e (leaving p g.edges) → HasRoom (needed g) e
  room_at p lt e m = by (few_unless_check e.what (needed g e.to))
    where
      by : IsCheck e.what ⊎ (length (demanded e.what (needed g e.to)) ≤ length (needed g e.to)) → HasRoom (needed g) e
      by (inl check) =
          let picked = picked_in (λ (x : Arc). x.from == p) e g.edges m in
          let only = each_at (IsAloneIfCheck g.edges) g.edges e alone picked.0 check in
          let there : leaving p g.edges ≡ e ∷ [] = subst (λ (q : ℕ). leaving q g.edges ≡ e ∷ []) (eqb-true e.from p picked.1) only in
          let fit = subst (λ (es : List Arc). Each Fits (edges_operations (needed g) [] es)) there (point_fits p lt) in
          let one = each_left Fits (edge_operations e.what [] (needed g e.to)) [] fit in
          (each_right Fits (carries e.what (needed g e.to)) (Joins [] (demanded e.what (needed g e.to)) ∷ []) one).0
      by (inr few) =
          let own = (each_rows_at AreTame (need g (no_rows g.points)) e.to no_tame tame.points).most in
          let most = count_most [] (demanded e.what (needed g e.to)) in
          omega arith

  module _ (views : List View) (fold : IsBackFold need_says g views) where
    at_from : (n p : ℕ) → p < length g.points → length g.points ≤ p + n → At views (needed g) p
    at_from zero p lt le = absurd (omega arith)
    at_from (suc n) p lt le =
        let e = some_is (slice_get views p) (EbbsTo need_says g views p) (fold.points p lt) in
        let folded = folds_need views (needed g) (leaving p g.edges) [] e.2.0 e.0 (λ x m. above (at_from n) x m) (point_fits p lt)
        (each_of_members (HasRoom (needed g)) (leaving p g.edges) (room_at p lt)) e.2.1 e.2.2 in
        e.1 ∙ ap (λ (z : View). Some z) (folded ∙ ap view_of_rows (sym ((need_is g graph.leads (no_rows g.points)).needed p (no_head g.points p none))))
      where
        above : ((q : ℕ) → q < length g.points → length g.points ≤ q + n → At views (needed g) q) → (x : Arc) → In x (leaving p g.edges) → At views (needed g) x.to
        above go x m =
            let picked = picked_in (λ (x : Arc). x.from == p) x g.edges m in
            let from : x.from ≡ p = eqb-true x.from p picked.1 in
            let rises = always_rises g graph none x picked.0 in
            go x.to (leads_of g graph x picked.0).reaches (omega arith)

    each : (p : ℕ) → p < length g.points → At views (needed g) p
    each p lt = at_from (length g.points) p lt (omega arith)

    -- the value at a point is what the point needs
    value_at : (p : ℕ) (view : View) → slice_get views p ≡ Some view → rowed_of view ≡ Some (needed g p)
    value_at p view at =
        let within = slice_get_within views p view at in
        let long = fold.long in
        let is = each p (omega arith) in
        let same : view ≡ view_of_rows (needed g p) = cc in
        ap rowed_of same ∙ rowed_told (Some (needed g p))

    needs : AreNeeds g views
    needs = record {
      whole =
          let all = need g (no_rows g.points) in
          let long = fold.long in
          let l = need_long g graph.leads (no_rows g.points) in
          let m = length-map all view_of_rows in
          same_items views (map view_of_rows all) (omega arith)
          (λ p lt. each p (omega arith) ∙ sym (slice_get-map view_of_rows all p ∙ ap (option_map view_of_rows) (slice_get-get_or all p [] (omega arith))));
      each = each;
      states = λ p value s at met. subst (λ (z : Rowed). HasNeed z s) (sym (sym (rowed_told value) ∙ value_at p (view_of value) at)) met;
      rows = λ p view params rows s at is zeros met. (subst (λ (z : Rowed). EntryIs z params rows) (value_at p view at) is s zeros).0 met;
    }

pub need_is_kept : NeedIsKept
need_is_kept g views graph none alone tame fold = needs g graph none alone tame views fold
