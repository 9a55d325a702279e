use Rattle.std.proofs.Common.{◌≡◌, ◌++◌, drop}
use Rattle.pc_elim.proofs.settle.copies.Given as goal

abbrev pub invariant-loop-r : goal.invariant-loop-r
invariant-loop-r l = l.all ++ drop l.r-index l.rows ≡ l.rows
