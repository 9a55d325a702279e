use Rattle.pc_certify.proofs.Filling.{HeadsBelow}
use Rattle.pc_certify.proofs.heads.heads_of.Given as goal

abbrev pub invariant-loop-p : goal.invariant-loop-p
invariant-loop-p over l = HeadsBelow l.g l.p l.heads
