use Rattle.std.proofs.Common.{◌≡◌, ◌∙◌, ap, arith, rules}
use Rattle.std.proofs.lemmas.Result.{err_from_is_err_and}
use Rattle.pc_flow.specs.Annotation.{rows_at}
use Rattle.pc_flow.specs.Shape.{LeadsUp}
use Rattle.pc_flow.proofs.Entries.{edge_within}
use Rattle.pc_flow.proofs.Lists.{each_got}
use Rattle.pc_flow.proofs.Numbers.{number_within, leaving_there, leaving_done}
use Rattle.pc_lower.specs.Annotation.{is_head}
use Rattle.pc_lower.specs.Candidate.{turned_from}
use Rattle.pc_lower.proofs.Agreeing.{leaving_from}
use Rattle.pc_lower.proofs.Owing.{passes_none, passes_here, passes_refused, passes_all, carried_target, step}
use Rattle.pc_lower.proofs.turn.with_edges_owed.Goals as goal

pub loop-k-init : goal.loop-k-init
loop-k-init c =
    let a = rows_at c.args.rows.now in
    passes_none c.args.g.now c.args.m c.args.h a c.in_ok-present.present (c.in_ok-present.ensures ∙ c.rows_at-begun.ensures) c.requires.carried

pub edge-e-requires : goal.edge-e-requires
edge-e-requires c = number_within c.args.g.now.edges c.args.h c.loop-k.k c.leaving-numbers.result.now c.leaving-numbers.ensures.numbers c.loop-k-test.true

pub rows_at-requires : goal.rows_at-requires
rows_at-requires c =
    let to : c.edge-e.result.now.to ≡ c.e.inside.to = search rules in
    let within = (edge_within c.args.g.now _ c.edge-e.result.now c.leaving-numbers.ensures.kept c.edge-e.ensures).1 in
    omega (arith, within, c.requires.long)

pub with_edge_owed-requires-clause-head : goal.with_edge_owed-requires-clause-head
with_edge_owed-requires-clause-head c =
    let edges = c.args.g.now.edges in
    let e = c.edge-e.result.now in
    let there = leaving_there edges c.args.h c.loop-k.k c.leaving-numbers.result.now c.leaving-numbers.ensures.numbers e c.loop-k-test.true c.edge-e.ensures in
    ap (is_head c.args.g.now.points) (leaving_from c.args.h edges c.loop-k.k e there) ∙ c.requires.head

pub with_edge_owed-requires-clause-leads : goal.with_edge_owed-requires-clause-leads
with_edge_owed-requires-clause-leads c =
    let g = c.args.g.now in
    each_got (LeadsUp g.points g.variables) g.edges _ c.edge-e.result.now c.leaving-numbers.ensures.kept.leads c.edge-e.ensures

pub with_edge_owed-requires-clause-carried : goal.with_edge_owed-requires-clause-carried
with_edge_owed-requires-clause-carried c =
    let a = rows_at c.args.rows.now in
    let edges = c.args.g.now.edges in
    let e = c.edge-e.result.now in
    let there = leaving_there edges c.args.h c.loop-k.k c.leaving-numbers.result.now c.leaving-numbers.ensures.numbers e c.loop-k-test.true c.edge-e.ensures in
    let at_target : c.rows_at.result.now ≡ a e.to = search rules in
    carried_target c.args.g.now c.args.m c.args.h a c.loop-k.k e c.loop-k.present there c.loop-k.invariant c.rows_at.result.now at_target

pub returns-in_err-present-2 : goal.returns-in_err-present-2
returns-in_err-present-2 c =
    let p = err_from_is_err_and c.from_residual-in_err-present-2.result c.from_residual-in_err-present-2.ensures.1 in
    let g = c.args.g.now in
    let a = rows_at c.args.rows.now in
    let e = c.edge-e.result.now in
    let there = leaving_there g.edges c.args.h c.loop-k.k c.leaving-numbers.result.now c.leaving-numbers.ensures.numbers e c.loop-k-test.true c.edge-e.ensures in
    let at_target : c.rows_at.result.now ≡ a e.to = search rules in
    rw (p.1, p.2) (passes_refused g c.args.m c.args.h a c.loop-k.k e c.loop-k.present there c.loop-k.invariant c.rows_at-begun.result.now c.rows_at.result.now
    (step g c.args.m c.args.h a c.loop-k.k e c.loop-k.present there c.loop-k.invariant c.rows_at-begun.result.now c.rows_at.result.now)
    (turned_from g c.args.m c.args.h a) c.in_err-present-2.field-0.0 c.rows_at-begun.ensures at_target c.in_err-present-2.ensures)

pub loop-k-preserved : goal.loop-k-preserved
loop-k-preserved c =
    let g = c.args.g.now in
    let a = rows_at c.args.rows.now in
    let e = c.edge-e.result.now in
    let there = leaving_there g.edges c.args.h c.loop-k.k c.leaving-numbers.result.now c.leaving-numbers.ensures.numbers e c.loop-k-test.true c.edge-e.ensures in
    let at_target : c.rows_at.result.now ≡ a e.to = search rules in
    passes_here g c.args.m c.args.h a c.loop-k.k e c.loop-k.present there c.loop-k.invariant c.rows_at-begun.result.now c.rows_at.result.now c.in_ok-present-2.present
    c.rows_at-begun.ensures at_target c.in_ok-present-2.ensures.0 c.in_ok-present-2.ensures.1

pub returns : goal.returns
returns c =
    let edges = c.args.g.now.edges in
    let done = leaving_done edges c.args.h c.loop-k.k c.leaving-numbers.result.now c.leaving-numbers.ensures.numbers (omega arith) in
    passes_all c.args.g.now c.args.m c.args.h (rows_at c.args.rows.now) c.loop-k.k c.loop-k.present done c.loop-k.invariant
