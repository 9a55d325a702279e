use Rattle.pc_entail.proofs.Reducing.{Going}
use Rattle.pc_entail.proofs.Leaving.{Leaving}
use Rattle.pc_entail.proofs.reduction.reduce.Given as goal

abbrev pub invariant-loop-i : goal.invariant-loop-i
invariant-loop-i l = record {
  going : Going l.a l.i l.kept l.removed;
  leaving : Leaving l.a l.i l.kept l.removed;
}
