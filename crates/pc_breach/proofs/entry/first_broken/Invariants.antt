use Rattle.pc_breach.proofs.Evaluating.{Met}
use Rattle.pc_breach.proofs.entry.first_broken.Given as goal

abbrev pub invariant-loop-i : goal.invariant-loop-i
invariant-loop-i l = Met l.entry l.rows l.i
