use Rattle.std.proofs.Common.{◌≡◌, ◌++◌, drop}
use Rattle.pc_back.proofs.entry.listed.Given as goal

-- the rows so far and those that are left are all
abbrev pub invariant-loop-i : goal.invariant-loop-i
invariant-loop-i l = l.items ++ drop l.i l.rows ≡ l.rows
