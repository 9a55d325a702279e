use Rattle.std.proofs.Common.{◌≡◌, ◌++◌, take}
use Rattle.pc_entail.specs.Showing.{question}
use Rattle.pc_entail.proofs.entailment.add.Given as goal

abbrev pub invariant-loop-i : goal.invariant-loop-i
invariant-loop-i l = l.system ≡ question (l.initial.system.premises ++ take l.i l.rows) l.initial.system.goal
