use Rattle.std.proofs.Common.{subst}
use Rattle.pc_grammar.specs.Parallels.{parallels}
use Rattle.pc_grammar.specs.Parsing.{Gives, parsed_by}
use Rattle.pc_grammar.proofs.parsing.read_parallel.Goals as goal

pub returns-in-Some : goal.returns-in-Some
returns-in-Some c = subst (λ o. Gives c.read_parallel_front.result (parsed_by parallels o c.args.symbols.now c.args.end)) c.in-Some.ensures.first c.read_parallel_front.ensures

pub returns-in-None : goal.returns-in-None
returns-in-None c = subst (λ o. Gives c.read_parallel_front-in-None.result (parsed_by parallels o c.args.symbols.now c.args.end)) c.in-None.ensures.first c.read_parallel_front-in-None.ensures
