use Rattle.pc_breach.proofs.Evaluating.{Summed}
use Rattle.pc_breach.proofs.entry.value_at.Given as goal

abbrev pub invariant-loop-v : goal.invariant-loop-v
invariant-loop-v l = Summed l.r l.entry l.v l.sum
