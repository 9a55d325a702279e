use Rattle.pc_json.specs.Kept.{IsRowOver}
use Rattle.pc_json.specs.Values.{of_row}
use Rattle.pc_json.proofs.Arrays.{HasRead}
use Rattle.pc_json.proofs.rows.rows_in.Given as goal

abbrev pub invariant-loop-item : goal.invariant-loop-item
invariant-loop-item l = HasRead (IsRowOver l.variables) (of_row l.variables) l.list l.item-index l.rows
