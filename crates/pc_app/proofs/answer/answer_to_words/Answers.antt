use Rattle.std.proofs.Common.{inl}
use Rattle.pc_app.proofs.ReadingLemmas.{words_go_on}
use Rattle.pc_app.proofs.answer.answer_to_words.Goals as goal

pub returns-in-Some-clause-answered : goal.returns-in-Some-clause-answered
returns-in-Some-clause-answered g c = words_go_on _ _ _ _ _ (inl c.in-Some.ensures) c.answer_to_command.result c.answer_to_command.ensures.answered
