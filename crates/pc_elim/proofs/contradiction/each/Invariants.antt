use Rattle.std.proofs.Common.{◌≡◌, drop}
use Rattle.pc_elim.specs.Elimination.{flat, combined_of}
use Rattle.pc_elim.specs.Settling.{contradiction_of}
use Rattle.pc_elim.proofs.contradiction.each.Given as goal

abbrev pub invariant-loop-r : goal.invariant-loop-r
invariant-loop-r l = contradiction_of (flat (combined_of l.k l.all) (drop l.r-index l.all)) ≡ contradiction_of (flat (combined_of l.k l.all) l.all)
