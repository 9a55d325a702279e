use Rattle.std.proofs.Common.{◌≡◌, drop, length, ◌≤◌}
use Rattle.pc_rows.specs.declared.rows.TheConstants.{ROWS}
use Rattle.pc_rows.specs.Joins.{joined}
use Rattle.pc_rows.proofs.rows.join_all.Given as goal

abbrev pub invariant-loop-i : goal.invariant-loop-i
invariant-loop-i l = record { most : length l.all ≤ ROWS; rest : joined l.all (drop l.i l.b) ≡ joined l.a l.b }
