-- The steps by which a row is followed, one after the other.
use Rattle.std.proofs.Common.{◌≡◌, ◌∙◌, ◌==◌, ℕ, zero, suc, ◌<◌, ℤ, List, [], ◌∷◌, ◌++◌, length, Bool, true, false, cond, sym, ap, subst, arith, inl, inr, Option, Some, append_assoc}
use Rattle.std.specs.Prelude.{◌⊎◌, option_to_list}
use Rattle.std.specs.List.{AllByRecursion as Each}
use Rattle.std.proofs.lemmas.Bool.Decides.{eqb_tells}
use Rattle.pc_rows.specs.Linear.{Linear}
use Rattle.pc_rows.proofs.Joining.{each_join, each_left, each_right}
use Rattle.pc_flow.specs.Annotation.{rows_at}
use Rattle.pc_flow.specs.Arc.{Arc}
use Rattle.pc_flow.specs.Exact.{PointRows}
use Rattle.pc_flow.specs.Flow.{Flow}
use Rattle.pc_flow.specs.Incidence.{leaving}
use Rattle.pc_flow.specs.Shape.{NoHeads, LeadsUp, IsGraph}
use Rattle.pc_flow.proofs.Lists.{each_more}
use Rattle.pc_lower.specs.Annotation.{no_rows}
use Rattle.pc_lower.specs.Course.{edges_carries}
use Rattle.pc_lower.specs.Need.{demanded}
use Rattle.pc_lower.specs.Operations.{Fits, Joins, carries, edge_operations, edges_operations, point_operations, operations_below, operations}
use Rattle.pc_rows.specs.Joins.{joined}
use Rattle.pc_lower.proofs.Paying.{no_head}
use Rattle.pc_breach.specs.declared.step.Step.{Step}
use Rattle.pc_breach.specs.Following.{after_row, after_step, step_from, followed}
use Rattle.pc_breach.specs.Answers.{needed}
use Rattle.pc_breach.proofs.Stepping.{some_leads}

-- ---- what is carried back at a point is in range where the need is

below_fits : (g : Flow) (a : PointRows) (n p : ℕ) → p < n → Each Fits (operations_below g a n) → Each Fits (point_operations g a p)
below_fits g a zero p lt h = absurd (omega arith)
below_fits g a (suc n) p lt h = by (eqb_tells n p) (λ less. below_fits g a n p less (each_right Fits (point_operations g a n) (operations_below g a n) h))
  where
    by : (((n == p) ≡ true) × (n ≡ p)) ⊎ (((n == p) ≡ false) × (n ≡ p → ⊥)) → (p < n → Each Fits (point_operations g a p)) → Each Fits (point_operations g a p)
    by (inl k) below = subst (λ (m : ℕ). Each Fits (point_operations g a m)) k.1 (each_left Fits (point_operations g a n) (operations_below g a n) h)
    by (inr k) below = let other = k.1 in below (omega arith)

edges_fit : (a : PointRows) (rows : List Linear) (edges : List Arc) → Each Fits (edges_operations a rows edges) → Each Fits (edges_carries a edges)
edges_fit a rows [] h = tt
edges_fit a rows (e ∷ edges) h =
    let later = edges_operations a (joined rows (demanded e.what (a e.to))) edges in
    each_join Fits (carries e.what (a e.to)) (edges_carries a edges)
    (each_left Fits (carries e.what (a e.to)) (Joins rows (demanded e.what (a e.to)) ∷ []) (each_left Fits (edge_operations e.what rows (a e.to)) later h))
    (edges_fit a (joined rows (demanded e.what (a e.to))) edges (each_right Fits (edge_operations e.what rows (a e.to)) later h))

pub carried_from_point : (g : Flow) (p : ℕ) → NoHeads g.points → p < length g.points → Each Fits (operations g (no_rows g.points)) →
    Each Fits (edges_carries (rows_at (needed g)) (leaving p g.edges))
carried_from_point g p none lt h =
    let a = rows_at (needed g) in
    let here = below_fits g a (length g.points) p lt h in
    edges_fit a [] (leaving p g.edges) (subst (λ (t : Bool). Each Fits (cond t [] (edges_operations a [] (leaving p g.edges)))) (no_head g.points p none) here)

-- a step leads to one of the points
pub step_leads : (g : Flow) (a : PointRows) (p : ℕ) (r : Linear) (step : Step) → IsGraph g → step_from g.edges a p r ≡ Some step → step.to < length g.points
step_leads g a p r step is h = some_leads (length g.points) _ a r (leaving p g.edges) step (picked g.edges (each_more (LeadsUp g.points g.variables) (λ e. e.to < length g.points) (λ e k. k.reaches) g.edges is.leads)) h
  where
    picked : (edges : List Arc) → Each (λ e. e.to < length g.points) edges → Each (λ e. e.to < length g.points) (leaving p edges)
    picked [] k = tt
    picked (e ∷ edges) k = by (e.from == p) (picked edges k.1)
      where
        by : (t : Bool) → Each (λ e. e.to < length g.points) (leaving p edges) → Each (λ e. e.to < length g.points) (cond t (e ∷ leaving p edges) (leaving p edges))
        by true more = (k.0, more)
        by false more = more

-- ---- the choices so far, and those that are left

module _ (edges : List Arc) (a : PointRows) (n m p : ℕ) (r : Linear) (so_far goal : List ℤ) (left : m ≡ suc n) (h : so_far ++ followed edges a m p r ≡ goal) where
  opened : so_far ++ after_step (followed edges a n) (step_from edges a p r) ≡ goal
  opened = ap (λ (k : ℕ). so_far ++ followed edges a k p r) (sym left) ∙ h

  pub step_on : (choice : Option ℤ) (to : ℕ) (row : Option Linear) (new : List ℤ) → step_from edges a p r ≡ Some (record { choice = choice; to = to; row = row }) →
      new ≡ so_far ++ option_to_list choice → new ++ after_row (followed edges a n to) row ≡ goal
  step_on choice to row new is pushed =
      ap (λ (z : List ℤ). z ++ after_row (followed edges a n to) row) pushed
      ∙ append_assoc so_far (option_to_list choice) (after_row (followed edges a n to) row)
      ∙ sym (ap (λ (z : Option Step). so_far ++ after_step (followed edges a n) z) is) ∙ opened
