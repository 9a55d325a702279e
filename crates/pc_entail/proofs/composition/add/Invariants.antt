use Rattle.pc_entail.proofs.Composing.{Adding}
use Rattle.pc_entail.proofs.composition.add.Given as goal

abbrev pub invariant-loop-i : goal.invariant-loop-i
invariant-loop-i l = Adding l.times l.place l.initial.premises l.parts l.i l.premises
