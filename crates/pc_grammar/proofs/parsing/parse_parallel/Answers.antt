use Rattle.pc_grammar.specs.Parallels.{parallels}
use Rattle.pc_grammar.proofs.Starts.{parallels_lawful}
use Rattle.pc_grammar.proofs.Unique.{gives_means, gives_only}
use Rattle.pc_grammar.proofs.parsing.parse_parallel.Goals as goal

pub returns-clause-meant : goal.returns-clause-meant
returns-clause-meant c = gives_means parallels parallels_lawful c.read_parallel.result c.args.symbols.now c.args.end c.read_parallel.ensures

pub returns-clause-only : goal.returns-clause-only
returns-clause-only c = gives_only parallels parallels_lawful c.read_parallel.result c.args.symbols.now c.args.end c.read_parallel.ensures
