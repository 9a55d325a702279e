use Rattle.pc_text.proofs.Steps.{meant, just, in_order}
use Rattle.pc_text.proofs.lex.tokens.Goals as goal

pub returns-clause-meant : goal.returns-clause-meant
returns-clause-meant c = meant c.lex.result c.args.src.now c.lex.ensures

pub returns-clause-only : goal.returns-clause-only
returns-clause-only c = just c.lex.result c.args.src.now c.lex.ensures

pub returns-clause-spans : goal.returns-clause-spans
returns-clause-spans c = in_order c.lex.result c.args.src.now c.lex.ensures
