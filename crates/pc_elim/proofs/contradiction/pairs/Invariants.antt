use Rattle.std.proofs.Common.{◌≡◌, drop}
use Rattle.pc_elim.specs.Places.{combined_at}
use Rattle.pc_elim.specs.Settling.{contradiction_of}
use Rattle.pc_elim.proofs.contradiction.pairs.Given as goal

abbrev pub invariant-loop-i : goal.invariant-loop-i
invariant-loop-i l = contradiction_of (combined_at l.k l.p l.all (drop l.i-index l.below)) ≡ contradiction_of (combined_at l.k l.p l.all l.below)
