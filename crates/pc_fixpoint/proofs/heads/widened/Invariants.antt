use Rattle.pc_fixpoint.specs.Rounds.{AreWidened}
use Rattle.pc_fixpoint.proofs.heads.widened.Given as goal

abbrev pub invariant-loop-p : goal.invariant-loop-p
invariant-loop-p g l = AreWidened g.D.Forward l.g l.round l.values l.p l.wider
