use Rattle.pc_lower.proofs.Annotations.{HeadsSoFar}
use Rattle.pc_lower.proofs.annotation.at_heads.Given as goal

abbrev pub invariant-loop-p : goal.invariant-loop-p
invariant-loop-p l = HeadsSoFar l.g.points l.heads l.p l.a
