use Rattle.pc_show.proofs.NameTexts.{HoldsNames}
use Rattle.pc_show.proofs.showing.names.push_further.Given as goal

abbrev pub invariant-loop-v : goal.invariant-loop-v
invariant-loop-v l = HoldsNames l.names.names l.from l.v l.initial.text l.text
