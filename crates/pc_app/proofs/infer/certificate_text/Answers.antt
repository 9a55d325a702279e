use Rattle.std.proofs.lemmas.Result.{IfOk-weaker}
use Rattle.pc_app.proofs.InferLemmas.{inferred, short_text}
use Rattle.pc_app.proofs.infer.certificate_text.Goals as goal

pub returns : goal.returns
returns c =
    let p = c.args.program.now in
    let certificate = c.in_ok-certificate.certificate in
    let is = rw c.in_ok-graph.ensures at c.in_ok-certificate.ensures in
    let found = inferred p certificate is in
    IfOk-weaker c.show_certificate.result _ _
    (λ text spelled. record { certificate = certificate; inferred = found; spelled = spelled; short = short_text p certificate text is.few is.accepted spelled })
    c.show_certificate.ensures
