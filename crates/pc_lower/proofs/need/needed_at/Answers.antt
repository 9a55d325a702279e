use Rattle.std.proofs.Common.{◌≡◌, ◌∙◌, rules, arith}
use Rattle.std.proofs.lemmas.Result.{err_from_is_err_and}
use Rattle.pc_rows.specs.Joins.{joined}
use Rattle.pc_flow.specs.Annotation.{rows_at}
use Rattle.pc_flow.specs.Incidence.{leaving}
use Rattle.pc_flow.proofs.Entries.{edge_within}
use Rattle.pc_flow.proofs.Numbers.{number_within, leaving_there, leaving_done}
use Rattle.pc_lower.specs.Need.{demanded, needed_at}
use Rattle.pc_lower.specs.Unchecked.{seen, seen_arc}
use Rattle.pc_lower.proofs.Leaving.{gathers_here, gathers_all, gathers_refused}
use Rattle.pc_lower.proofs.Seeing.{seen_there, seen_count, seen_to}
use Rattle.pc_lower.proofs.need.needed_at.Goals as goal

pub edge-e-requires : goal.edge-e-requires
edge-e-requires c = number_within c.args.g.now.edges c.args.p c.loop-k.k c.leaving-numbers.result.now c.leaving-numbers.ensures.numbers c.loop-k-test.true

pub rows_at-requires : goal.rows_at-requires
rows_at-requires c =
    let to : c.edge-e.result.now.to ≡ c.e.inside.to = search rules in
    let within = (edge_within c.args.g.now _ c.edge-e.result.now c.leaving-numbers.ensures.kept c.edge-e.ensures).1 in
    omega (arith, within, c.requires.long)

pub returns-in_err-needed-clause-needed : goal.returns-in_err-needed-clause-needed
returns-in_err-needed-clause-needed c =
    let q = err_from_is_err_and c.from_residual.result c.from_residual.ensures.1 in
    let a = rows_at c.args.rows.now in
    let b = c.args.asserted in
    let g = c.args.g.now in
    let e = c.edge-e.result.now in
    let there =
    seen_there b g c.args.p c.loop-k.k e (leaving_there g.edges c.args.p c.loop-k.k c.leaving-numbers.result.now c.leaving-numbers.ensures.numbers e c.loop-k-test.true c.edge-e.ensures) in
    let at_target : c.rows_at.result.now ≡ a e.to = search rules in
    let w = (seen_arc b e).what in
    rw (q.1, q.2) (gathers_refused a (leaving c.args.p (seen b g).edges) c.loop-k.k (seen_arc b e) c.loop-k.needed there c.loop-k.invariant c.rows_at.result.now
    (joined c.loop-k.needed (demanded w c.rows_at.result.now)) (needed_at (seen b g).edges a c.args.p) c.in_err-needed.field-0.0 (at_target ∙ seen_to a b e) c.in_err-needed.ensures)

pub loop-k-preserved : goal.loop-k-preserved
loop-k-preserved c =
    let a = rows_at c.args.rows.now in
    let b = c.args.asserted in
    let g = c.args.g.now in
    let e = c.edge-e.result.now in
    let there =
    seen_there b g c.args.p c.loop-k.k e (leaving_there g.edges c.args.p c.loop-k.k c.leaving-numbers.result.now c.leaving-numbers.ensures.numbers e c.loop-k-test.true c.edge-e.ensures) in
    let at_target : c.rows_at.result.now ≡ a e.to = search rules in
    gathers_here a (leaving c.args.p (seen b g).edges) c.loop-k.k (seen_arc b e) c.loop-k.needed there c.loop-k.invariant c.rows_at.result.now c.in_ok-needed.needed
    (at_target ∙ seen_to a b e) c.in_ok-needed.ensures.0 c.in_ok-needed.ensures.1

pub returns-clause-needed : goal.returns-clause-needed
returns-clause-needed c =
    let g = c.args.g.now in
    let done = leaving_done g.edges c.args.p c.loop-k.k c.leaving-numbers.result.now c.leaving-numbers.ensures.numbers (omega arith) in
    let count = seen_count c.args.asserted g c.args.p in
    gathers_all (rows_at c.args.rows.now) (leaving c.args.p (seen c.args.asserted g).edges) c.loop-k.k c.loop-k.needed (omega arith) c.loop-k.invariant
