use Rattle.std.proofs.lemmas.Result.{IfOk-weaker}
use Rattle.pc_app.proofs.InferLemmas.{says, inferred}
use Rattle.pc_app.proofs.infer.condition_of.Goals as goal

pub show_condition-requires : goal.show_condition-requires
show_condition-requires c = says c.args.program.now c.in_ok-certificate.certificate (rw c.in_ok-graph.ensures at c.in_ok-certificate.ensures.accepted)

pub returns : goal.returns
returns c =
    let certificate = c.in_ok-certificate.certificate in
    let found = inferred c.args.program.now certificate (rw c.in_ok-graph.ensures at c.in_ok-certificate.ensures) in
    IfOk-weaker c.show_condition.result _ _ (λ text is. record { certificate = certificate; inferred = found; text_is = is }) c.show_condition.ensures
