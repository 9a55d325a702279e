use Rattle.std.proofs.Common.{◌≡◌, ◌++◌, drop}
use Rattle.pc_lower.specs.Need.{uncovered}
use Rattle.pc_lower.proofs.carry.uncovered.Given as goal

-- the rows so far and those that are left of the rest are all
abbrev pub invariant-loop-i : goal.invariant-loop-i
invariant-loop-i l = l.left ++ uncovered l.others (drop l.i l.rows) ≡ uncovered l.others l.rows
