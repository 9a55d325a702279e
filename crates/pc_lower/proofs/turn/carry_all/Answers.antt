use Rattle.std.proofs.Common.{◌≡◌, refl, arith, rules}
use Rattle.std.proofs.lemmas.Result.{err_from_is_err_and}
use Rattle.pc_flow.specs.Annotation.{rows_at}
use Rattle.pc_flow.specs.Carry.{back_all}
use Rattle.pc_flow.specs.Incidence.{leaving}
use Rattle.pc_flow.proofs.Entries.{edge_within}
use Rattle.pc_flow.proofs.Numbers.{number_within, leaving_there, leaving_done}
use Rattle.pc_lower.proofs.Owing.{carried_none, carried_here, carried_all, carried_refused}
use Rattle.pc_lower.proofs.turn.carry_all.Goals as goal

pub loop-k-init : goal.loop-k-init
loop-k-init c = carried_none (rows_at c.args.rows.now) (leaving c.args.h c.args.g.now.edges)

pub edge-e-requires : goal.edge-e-requires
edge-e-requires c = number_within c.args.g.now.edges c.args.h c.loop-k.k c.leaving-numbers.result.now c.leaving-numbers.ensures.numbers c.loop-k-test.true

pub rows_at-requires : goal.rows_at-requires
rows_at-requires c =
    let to : c.edge-e.result.now.to ≡ c.e.inside.to = search rules in
    let within = (edge_within c.args.g.now _ c.edge-e.result.now c.leaving-numbers.ensures.kept c.edge-e.ensures).1 in
    omega (arith, within, c.requires.long)

pub returns-in_err-carried : goal.returns-in_err-carried
returns-in_err-carried c =
    let p = err_from_is_err_and c.from_residual.result c.from_residual.ensures.1 in
    let a = rows_at c.args.rows.now in
    let edges = c.args.g.now.edges in
    let e = c.edge-e.result.now in
    let there = leaving_there edges c.args.h c.loop-k.k c.leaving-numbers.result.now c.leaving-numbers.ensures.numbers e c.loop-k-test.true c.edge-e.ensures in
    let at_target : c.rows_at.result.now ≡ a e.to = search rules in
    rw (p.1, p.2) (carried_refused a (leaving c.args.h edges) c.loop-k.k e there c.loop-k.invariant c.rows_at.result.now
    (back_all e.what c.rows_at.result.now) (tt {0}) c.in_err-carried.field-0.0 at_target c.in_err-carried.ensures)

pub loop-k-preserved : goal.loop-k-preserved
loop-k-preserved c =
    let a = rows_at c.args.rows.now in
    let edges = c.args.g.now.edges in
    let e = c.edge-e.result.now in
    let there = leaving_there edges c.args.h c.loop-k.k c.leaving-numbers.result.now c.leaving-numbers.ensures.numbers e c.loop-k-test.true c.edge-e.ensures in
    let at_target : c.rows_at.result.now ≡ a e.to = search rules in
    carried_here a (leaving c.args.h edges) c.loop-k.k e there c.loop-k.invariant c.rows_at.result.now at_target c.in_ok-carried.ensures.0

pub returns : goal.returns
returns c =
    let edges = c.args.g.now.edges in
    let done = leaving_done edges c.args.h c.loop-k.k c.leaving-numbers.result.now c.leaving-numbers.ensures.numbers (omega arith) in
    (carried_all (rows_at c.args.rows.now) (leaving c.args.h edges) c.loop-k.k done c.loop-k.invariant, refl)
