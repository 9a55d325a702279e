use Rattle.std.proofs.Common.{arith}
use Rattle.std.proofs.lemmas.Option.{get_or_from_slice_get}
use Rattle.pc_condition.proofs.Growing.{rows_step}
use Rattle.pc_condition.proofs.rows.text_of_some.Goals as goal

pub loop-i-preserved : goal.loop-i-preserved
loop-i-preserved g c =
    let rows = g.L.RowList.listed c.args.rows.now in
    let r = c.row-in-loop-i.result.now in
    rows_step c.args.names.now.names rows c.loop-i.i r c.loop-i.text c.push_all.new.self c.push_row-in-loop-i.new.text
    (omega (arith, c.loop-i.auto.i))
    (omega (arith, c.loop-i-test.true, c.count-i-end.ensures))
    (get_or_from_slice_get rows c.loop-i.i r r c.row-in-loop-i.ensures)
    c.loop-i.invariant
    c.in_ok-push_all.ensures.added
    c.in_ok-push_row-2.ensures.added
