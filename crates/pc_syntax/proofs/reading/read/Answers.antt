use Rattle.pc_syntax.proofs.Readings.{gives_program, gives_fault, gives_only}
use Rattle.pc_syntax.proofs.reading.read.Goals as goal

pub returns-clause-spells : goal.returns-clause-spells
returns-clause-spells c = gives_program c.args.src.now c.read_content.result c.read_content.ensures

pub returns-clause-faulty : goal.returns-clause-faulty
returns-clause-faulty c = gives_fault c.args.src.now c.read_content.result c.read_content.ensures

pub returns-clause-only : goal.returns-clause-only
returns-clause-only c = gives_only c.args.src.now c.read_content.result c.read_content.ensures
