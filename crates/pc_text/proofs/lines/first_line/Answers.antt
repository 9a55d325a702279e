use Rattle.pc_text.proofs.LineLemmas.{ended, open_ended}
use Rattle.pc_text.proofs.lines.first_line.Goals as goal

pub returns-then-length-text-clause-line : goal.returns-then-length-text-clause-line
returns-then-length-text-clause-line c = ended c.args.text.now c.run-length.result c.run-length.ensures.value c.if-length-text.true

pub returns-else-length-text-clause-line : goal.returns-else-length-text-clause-line
returns-else-length-text-clause-line c = open_ended c.args.text.now c.run-length.result c.run-length.ensures.value c.if-length-text.false
