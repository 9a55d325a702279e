use Rattle.std.proofs.Common.{◌≡◌, Some, slice_get, rules}
use Rattle.pc_box.specs.Forward.{cut_row, cut_rows}
use Rattle.pc_box.proofs.Cuts.{next_row}
use Rattle.pc_box.proofs.cutting.cut_rows.Goals as goal

pub loop-k-preserved : goal.loop-k-preserved
loop-k-preserved c =
    let rows = c.args.rows.now in
    let r = c.at.result.now in
    let there : slice_get rows c.loop-k.k ≡ Some r = search rules in
    let new : c.in_ok-left.left ≡ cut_row c.loop-k.left r = search rules in
    next_row cut_row rows c.loop-k.k r c.loop-k.left c.in_ok-left.left (cut_rows (Some c.args.bounds.now) rows) there new c.loop-k.invariant
