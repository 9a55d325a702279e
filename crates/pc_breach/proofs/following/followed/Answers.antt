use Rattle.std.proofs.Common.{◌≡◌, ◌∙◌, ◌+◌, ◌-◌, ◌++◌, sym, ap, subst, length, List, Option, Some, arith}
use Rattle.std.specs.List.{AllByRecursion as Each}
use Rattle.pc_rows.specs.Linear.{Linear}
use Rattle.pc_flow.specs.Annotation.{rows_at}
use Rattle.pc_flow.specs.Incidence.{leaving}
use Rattle.pc_lower.specs.Course.{edges_carries}
use Rattle.pc_lower.specs.Operations.{Fits}
use Rattle.pc_breach.specs.Following.{step_from, followed, after_row}
use Rattle.pc_breach.proofs.Followed.{carried_from_point, step_leads, step_on}
use Rattle.pc_breach.proofs.following.followed.Goals as goal

pub step_from-requires-clause-carried : goal.step_from-requires-clause-carried
step_from-requires-clause-carried c =
    let g = c.args.g.now in
    let p = c.loop-k.p in
    subst (λ (z : List (List Linear)). Each Fits (edges_carries (rows_at z) (leaving p g.edges))) (sym c.requires.need)
    (carried_from_point g p c.requires.heads c.loop-k.invariant.within c.requires.fit)

pub loop-k-preserved : goal.loop-k-preserved
loop-k-preserved c =
    let g = c.args.g.now in
    let a = rows_at c.args.rows.now in
    let step = c.in-Some.step in
    let points = length g.points in
    let is : step_from g.edges a c.loop-k.p c.loop-k.row ≡ Some step = sym c.step_from.ensures ∙ c.in-Some.is in
    let on = step_on g.edges a (points - (c.loop-k._k + 1)) (points - c.loop-k._k) c.loop-k.p c.loop-k.row c.loop-k.choices (followed g.edges a points 0 c.args.r) (omega arith)
    c.loop-k.invariant.all step.choice step.to step.row c.give.new.choices is c.in_ok-give.ensures in
    record {
      within = step_leads g a c.loop-k.p c.loop-k.row step c.points-points.ensures.kept is;
      all = ap (λ (z : Option Linear). c.give.new.choices ++ after_row (followed g.edges a (points - (c.loop-k._k + 1)) step.to) z) (sym c.in-Some-next.is) ∙ on;
    }
