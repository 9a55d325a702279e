use Rattle.std.proofs.Common.{◌≡◌, ◌∙◌, ◌==◌, sym, ap, subst, List, length, None, arith, rules}
use Rattle.std.specs.List.{AllByRecursion as Each}
use Rattle.pc_rows.specs.Linear.{Linear}
use Rattle.pc_lower.specs.Operations.{Fits, carries}
use Rattle.pc_flow.specs.Annotation.{rows_at}
use Rattle.pc_flow.specs.Incidence.{leaving}
use Rattle.pc_flow.proofs.Entries.{edge_within}
use Rattle.pc_flow.proofs.Numbers.{number_within, leaving_there, leaving_done}
use Rattle.pc_breach.specs.Following.{step_over}
use Rattle.pc_breach.proofs.Stepping.{carried_over, standing, edge_found, edge_next, edges_done, by_numbers}
use Rattle.pc_breach.proofs.step.step_from.Goals as goal

pub edge-e-requires : goal.edge-e-requires
edge-e-requires c = number_within c.args.g.now.edges c.args.p c.loop-k.k c.leaving-numbers.result.now c.leaving-numbers.ensures.numbers c.loop-k-test.true

pub rows_at-requires : goal.rows_at-requires
rows_at-requires c =
    let to : c.edge-e.result.now.to ≡ c.e.inside.to = search rules in
    let within = (edge_within c.args.g.now _ c.edge-e.result.now c.leaving-numbers.ensures.kept c.edge-e.ensures).1 in
    omega (arith, within, c.requires.long)

pub step_over-step-requires : goal.step_over-step-requires
step_over-step-requires c =
    let a = rows_at c.args.rows.now in
    let edges = c.args.g.now.edges in
    let e = c.edge-e.result.now in
    let there = leaving_there edges c.args.p c.loop-k.k c.leaving-numbers.result.now c.leaving-numbers.ensures.numbers e c.loop-k-test.true c.edge-e.ensures in
    let at_target : c.rows_at.result.now ≡ a e.to = search rules in
    subst (λ (z : List Linear). Each Fits (carries e.what z)) (sym at_target) (carried_over a (leaving c.args.p edges) c.loop-k.k e c.requires.carried there)

pub returns-then-is_some : goal.returns-then-is_some
returns-then-is_some c =
    let a = rows_at c.args.rows.now in
    let edges = c.args.g.now.edges in
    let e = c.edge-e.result.now in
    let there = leaving_there edges c.args.p c.loop-k.k c.leaving-numbers.result.now c.leaving-numbers.ensures.numbers e c.loop-k-test.true c.edge-e.ensures in
    let at_target : c.rows_at.result.now ≡ a e.to = search rules in
    let only = length c.leaving-numbers.result.now == 1 in
    let over = c.step_over-step.ensures ∙ ap (λ (z : List Linear). step_over (standing only c.loop-k.k) e c.args.r.now z) at_target in
    let found = edge_found only a c.args.r.now (leaving c.args.p edges) c.loop-k.k e there c.loop-k.invariant c.step_over-step.result over (sym c.is_some.ensures ∙ c.if-is_some.true) in
    by_numbers edges a c.args.p c.args.r.now c.leaving-numbers.result.now c.step_over-step.result c.leaving-numbers.ensures.numbers found

pub loop-k-preserved : goal.loop-k-preserved
loop-k-preserved c =
    let a = rows_at c.args.rows.now in
    let edges = c.args.g.now.edges in
    let e = c.edge-e.result.now in
    let there = leaving_there edges c.args.p c.loop-k.k c.leaving-numbers.result.now c.leaving-numbers.ensures.numbers e c.loop-k-test.true c.edge-e.ensures in
    let at_target : c.rows_at.result.now ≡ a e.to = search rules in
    let only = length c.leaving-numbers.result.now == 1 in
    let over = c.step_over-step.ensures ∙ ap (λ (z : List Linear). step_over (standing only c.loop-k.k) e c.args.r.now z) at_target in
    edge_next only a c.args.r.now (leaving c.args.p edges) c.loop-k.k e there c.loop-k.invariant c.step_over-step.result over (sym c.is_some.ensures ∙ c.if-is_some.false)

pub returns : goal.returns
returns c =
    let a = rows_at c.args.rows.now in
    let edges = c.args.g.now.edges in
    let done = leaving_done edges c.args.p c.loop-k.k c.leaving-numbers.result.now c.leaving-numbers.ensures.numbers c.loop-k-test.false in
    let only = length c.leaving-numbers.result.now == 1 in
    by_numbers edges a c.args.p c.args.r.now c.leaving-numbers.result.now None c.leaving-numbers.ensures.numbers
    (edges_done only a c.args.r.now (leaving c.args.p edges) c.loop-k.k done c.loop-k.invariant)
