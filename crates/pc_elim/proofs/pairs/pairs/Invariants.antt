use Rattle.std.proofs.Common.{◌≡◌, ◌++◌, drop}
use Rattle.pc_elim.specs.Places.{combined_at}
use Rattle.pc_elim.proofs.Pairing.{AllFitAt}
use Rattle.pc_elim.proofs.pairs.pairs.Given as goal

abbrev pub invariant-loop-i : goal.invariant-loop-i
invariant-loop-i l = record {
  rest : l.out ++ combined_at l.k l.p l.all (drop l.i-index l.below) ≡ l.initial.out ++ combined_at l.k l.p l.all l.below;
  fits : AllFitAt l.k l.p l.all (drop l.i-index l.below) → AllFitAt l.k l.p l.all l.below;
}
