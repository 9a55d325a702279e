use Rattle.pc_app.proofs.answer.answer_to_command.Goals as goal

pub returns-in-Infer-clause-answered : goal.returns-in-Infer-clause-answered
returns-in-Infer-clause-answered g c = rw c.in-Infer.is c.answer_to_source.ensures.answered

pub returns-in-Certify-clause-answered : goal.returns-in-Certify-clause-answered
returns-in-Certify-clause-answered g c = rw c.in-Certify.is c.answer_to_source-in-Certify.ensures.answered

pub returns-in-Replay-clause-answered : goal.returns-in-Replay-clause-answered
returns-in-Replay-clause-answered g c = rw c.in-Replay.is c.answer_to_replay.ensures.answered

pub returns-in-Run-clause-answered : goal.returns-in-Run-clause-answered
returns-in-Run-clause-answered g c = rw c.in-Run.is c.answer_to_run.ensures.answered

pub returns-in-Breach-clause-answered : goal.returns-in-Breach-clause-answered
returns-in-Breach-clause-answered g c = rw c.in-Breach.is c.answer_to_breach.ensures.answered

pub returns-in-Facts-clause-answered : goal.returns-in-Facts-clause-answered
returns-in-Facts-clause-answered g c = rw c.in-Facts.is c.answer_to_source-in-Facts.ensures.answered

pub returns-in-Quick-clause-answered : goal.returns-in-Quick-clause-answered
returns-in-Quick-clause-answered g c = rw c.in-Quick.is c.answer_to_source-in-Quick.ensures.answered

pub returns-in-Show-clause-answered : goal.returns-in-Show-clause-answered
returns-in-Show-clause-answered g c = rw c.in-Show.is c.answer_to_source-in-Show.ensures.answered

pub returns-in-Trial-clause-answered : goal.returns-in-Trial-clause-answered
returns-in-Trial-clause-answered g c = rw c.in-Trial.is c.answer_to_trial.ensures.answered
