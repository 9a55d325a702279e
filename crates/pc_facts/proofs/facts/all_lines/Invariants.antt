use Rattle.pc_facts.specs.Facts.{AreLines}
use Rattle.pc_facts.proofs.facts.all_lines.Given as goal

abbrev pub invariant-loop-p : goal.invariant-loop-p
invariant-loop-p g l = AreLines g.D.Forward l.g l.names.names l.values l.p l.text
