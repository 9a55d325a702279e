use Rattle.std.proofs.Common.{◌≡◌, ◌+◌, ◌≤◌, take, length}
use Rattle.pc_rows.specs.declared.rows.TheConstants.{ROWS}
use Rattle.pc_rows.specs.Joins.{joined}
use Rattle.pc_rows.proofs.rows.joined_len.Given as goal

abbrev pub invariant-loop-i : goal.invariant-loop-i
invariant-loop-i l = record { few : l.count ≤ ROWS + l.i; most : length l.b ≤ ROWS; so_far : l.count ≡ length (joined l.a (take l.i l.b)) }
