use Rattle.pc_lower.proofs.Hinting.{Hints}
use Rattle.pc_lower.proofs.candidates.hinted.Given as goal

abbrev pub invariant-loop-p : goal.invariant-loop-p
invariant-loop-p l = Hints l.g.points l.p l.all
