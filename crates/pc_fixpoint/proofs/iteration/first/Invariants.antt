use Rattle.pc_fixpoint.specs.Flowing.{Filled}
use Rattle.pc_fixpoint.proofs.iteration.first.Given as goal

abbrev pub invariant-loop-p : goal.invariant-loop-p
invariant-loop-p g l = Filled g.D.Forward l.g l.p l.p l.values
