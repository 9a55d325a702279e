use Rattle.std.proofs.lemmas.Result.{IfOk-weaker}
use Rattle.pc_app.proofs.InferLemmas.{says}
use Rattle.pc_app.proofs.ReplayLemmas.{says_ruling}
use Rattle.pc_app.proofs.replay.ruled.Goals as goal

pub answer_of_ruling-requires : goal.answer_of_ruling-requires
answer_of_ruling-requires c = λ is. says c.args.program.now c.args.certificate.now (rw c.requires at (c.accept-ruling.ensures.accepted.0 is))

pub returns : goal.returns
returns c =
    IfOk-weaker c.answer_of_ruling.result _ _
    (λ a h. says_ruling c.args.program.now c.args.certificate.now a.status a.text (rw (c.accept-ruling.ensures.rule, c.requires) at h.0) (rw (c.accept-ruling.ensures.rule, c.requires) at h.1))
    c.answer_of_ruling.ensures
