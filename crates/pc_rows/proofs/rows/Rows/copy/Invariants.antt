use Rattle.std.proofs.Common.{◌≡◌, ◌≤◌, take, length}
use Rattle.pc_rows.specs.declared.rows.TheConstants.{ROWS}
use Rattle.pc_rows.proofs.rows.Rows.copy.Given as goal

abbrev pub invariant-loop-r : goal.invariant-loop-r
invariant-loop-r l = (l.rows ≡ take l.r-index l.r-items) × (length l.r-items ≤ ROWS)
