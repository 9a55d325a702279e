use Rattle.std.proofs.Common.{◌≡◌, drop}
use Rattle.pc_elim.specs.Settling.{contradiction_of}
use Rattle.pc_elim.proofs.contradiction.contradiction.Given as goal

abbrev pub invariant-loop-r : goal.invariant-loop-r
invariant-loop-r l = contradiction_of (drop l.r-index l.rows) ≡ contradiction_of l.rows
