use Rattle.pc_json.specs.Kept.{AreRowsOver}
use Rattle.pc_json.specs.Values.{of_rows}
use Rattle.pc_json.proofs.Arrays.{HasRead}
use Rattle.pc_json.proofs.rows.points_in.Given as goal

abbrev pub invariant-loop-item : goal.invariant-loop-item
invariant-loop-item l = HasRead (AreRowsOver l.variables) (of_rows l.variables) l.list l.item-index l.all
