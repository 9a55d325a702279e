use Rattle.pc_grammar.specs.Programs.{programs}
use Rattle.pc_grammar.proofs.Starts.{programs_lawful}
use Rattle.pc_grammar.proofs.Unique.{gives_means, gives_only}
use Rattle.pc_grammar.proofs.parsing.parse.Goals as goal

pub returns-clause-meant : goal.returns-clause-meant
returns-clause-meant c = gives_means programs programs_lawful c.read.result c.args.symbols.now c.args.end c.read.ensures

pub returns-clause-only : goal.returns-clause-only
returns-clause-only c = gives_only programs programs_lawful c.read.result c.args.symbols.now c.args.end c.read.ensures
