use Rattle.std.proofs.Common.{subst}
use Rattle.pc_words.specs.Words.{Order, ordered}
use Rattle.pc_words.proofs.SpellingLemmas.{same_order}
use Rattle.pc_app.specs.Table.{task_of}
use Rattle.pc_app.specs.Reading.{TaskIs}
use Rattle.pc_app.proofs.answer.answer_to_taken.Goals as goal

pub returns-clause-answered : goal.returns-clause-answered
returns-clause-answered g c order is =
    subst (λ (o : Order). TaskIs (g.S.Store.holding c.args.store.now) (g.S.Store.faults c.args.store.now) (g.S.Store.faults c.answer_to_command.new.store) (task_of o) c.answer_to_command.result)
    (same_order _ order (ordered c.in-Some.command) is c.in-Some.ensures) c.answer_to_command.ensures.answered
