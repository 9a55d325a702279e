use Rattle.std.proofs.Common.{◌≤◌}
use Rattle.pc_lower.specs.Fresh.{IsCleared}
use Rattle.pc_lower.proofs.steady.clear.Given as goal

abbrev pub invariant-loop-p : goal.invariant-loop-p
invariant-loop-p l = record { cleared : IsCleared l.low l.p l.initial.rows l.rows; within : l.p ≤ l.high }
