use Rattle.pc_app.proofs.ReadingLemmas.{taken_go_on}
use Rattle.pc_app.proofs.answer.answer_to_others.Goals as goal

pub returns-in-Some-clause-answered : goal.returns-in-Some-clause-answered
returns-in-Some-clause-answered g c =
    taken_go_on _ _ _ _ _ c.requires (rw c.in-Some.is at c.in_ok-list.ensures) c.answer_to_taken.result
    (λ order is. c.answer_to_taken.ensures.answered order (rw c.as_slice.ensures.value is))
