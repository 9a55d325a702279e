use Rattle.std.proofs.Common.{◌≡◌, ◌++◌, drop}
use Rattle.pc_elim.specs.Places.{places_below}
use Rattle.pc_elim.proofs.places.places_below.Given as goal

abbrev pub invariant-loop-i : goal.invariant-loop-i
invariant-loop-i l = l.places ++ places_below l.k l.i (drop l.i l.rows) ≡ places_below l.k 0 l.rows
