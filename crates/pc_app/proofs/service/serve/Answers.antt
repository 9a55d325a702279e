use Rattle.pc_words.specs.Words.{Infer, Certify, Replay, Run, Breach, Facts, Quick, Show, Trial}
use Rattle.pc_app.proofs.EndLemmas as ends
use Rattle.pc_app.proofs.service.serve.Goals as goal

-- ---- what each command promises

pub returns-clause-infer : goal.returns-clause-infer
returns-clause-infer g c source is ended = ends.keeps _ _ _ _ _ _ _ _ _ c.respond.ensures.ends (Infer source) is ended

pub returns-clause-certify : goal.returns-clause-certify
returns-clause-certify g c source is ended = ends.keeps _ _ _ _ _ _ _ _ _ c.respond.ensures.ends (Certify source) is ended

pub returns-clause-replay : goal.returns-clause-replay
returns-clause-replay g c source certificate is ended = ends.keeps _ _ _ _ _ _ _ _ _ c.respond.ensures.ends (Replay source certificate) is ended

pub returns-clause-run : goal.returns-clause-run
returns-clause-run g c source script is ended = ends.keeps _ _ _ _ _ _ _ _ _ c.respond.ensures.ends (Run source script) is ended

pub returns-clause-breach : goal.returns-clause-breach
returns-clause-breach g c source script is ended = ends.keeps _ _ _ _ _ _ _ _ _ c.respond.ensures.ends (Breach source script) is ended

pub returns-clause-facts : goal.returns-clause-facts
returns-clause-facts g c domain source is ended = ends.keeps _ _ _ _ _ _ _ _ _ c.respond.ensures.ends (Facts domain source) is ended

pub returns-clause-quick : goal.returns-clause-quick
returns-clause-quick g c domain source is ended = ends.keeps _ _ _ _ _ _ _ _ _ c.respond.ensures.ends (Quick domain source) is ended

pub returns-clause-show : goal.returns-clause-show
returns-clause-show g c source is ended = ends.keeps _ _ _ _ _ _ _ _ _ c.respond.ensures.ends (Show source) is ended

pub returns-clause-trial : goal.returns-clause-trial
returns-clause-trial g c loops is ended = ends.keeps _ _ _ _ _ _ _ _ _ c.respond.ensures.ends (Trial loops) is ended

-- ---- what holds of all forms

pub returns-clause-answered : goal.returns-clause-answered
returns-clause-answered g c = ends.answered _ _ _ _ _ _ _ _ _ c.respond.ensures.ends

pub returns-clause-usage : goal.returns-clause-usage
returns-clause-usage g c = ends.usage _ _ _ _ _ _ _ _ _ c.respond.ensures.ends

pub returns-clause-too_long : goal.returns-clause-too_long
returns-clause-too_long g c = ends.too_long _ _ _ _ _ _ _ _ _ c.respond.ensures.ends

pub returns-clause-refused : goal.returns-clause-refused
returns-clause-refused g c = ends.refused _ _ _ _ _ _ _ _ _ c.respond.ensures.ends

pub returns-clause-malformed : goal.returns-clause-malformed
returns-clause-malformed g c = ends.malformed _ _ _ _ _ _ _ _ _ c.respond.ensures.ends

pub returns-clause-failed : goal.returns-clause-failed
returns-clause-failed g c = ends.failed _ _ _ _ _ _ _ _ _ c.respond.ensures.ends

pub returns-clause-past : goal.returns-clause-past
returns-clause-past g c = ends.past _ _ _ _ _ _ _ _ _ c.respond.ensures.ends

pub returns-clause-store : goal.returns-clause-store
returns-clause-store g c = ends.store _ _ _ _ _ _ _ _ _ c.respond.ensures.ends

pub returns-clause-sink : goal.returns-clause-sink
returns-clause-sink g c = ends.sink _ _ _ _ _ _ _ _ _ c.respond.ensures.ends

pub returns-clause-unwritten : goal.returns-clause-unwritten
returns-clause-unwritten g c = ends.unwritten _ _ _ _ _ _ _ _ _ c.respond.ensures.ends

pub returns-clause-complete : goal.returns-clause-complete
returns-clause-complete g c = ends.complete _ _ _ _ _ _ _ _ _ c.respond.ensures.ends

pub returns-clause-only : goal.returns-clause-only
returns-clause-only g c = ends.only _ _ _ _ _ _ _ _ _ c.respond.ensures.ends

pub returns-clause-answers : goal.returns-clause-answers
returns-clause-answers g c = ends.answers _ _ _ _ _ _ _ _ _ c.respond.ensures.ends
