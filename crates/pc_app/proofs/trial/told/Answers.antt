use Rattle.std.proofs.Common.{◌≡◌, ◌++◌, rules}
use Rattle.pc_certificate.specs.Certificate.{condition_of}
use Rattle.pc_condition.specs.Conditions.{condition_text}
use Rattle.pc_gen.specs.Summary.{summary_text}
use Rattle.pc_app.proofs.InferLemmas.{says, inferred}
use Rattle.pc_app.proofs.TrialLemmas.{told_is}
use Rattle.pc_app.proofs.trial.told.Goals as goal

pub show_condition-requires : goal.show_condition-requires
show_condition-requires c = says c.args.program.now c.in_ok-certificate.certificate (rw c.in_ok-graph.ensures at c.in_ok-certificate.ensures.accepted)

pub returns : goal.returns
returns c =
    let certificate = c.in_ok-certificate.certificate in
    let names = c.args.program.now.names.names in
    let printed : c.push_all.new.self ≡ summary_text c.summary_of.result ++ condition_text names (condition_of certificate) = search rules in
    told_is c.args.loops c.args.source.now c.args.program.now certificate c.summary_of.result c.push_all.new.self c.requires.loops c.requires.made c.requires.spelled
    (inferred c.args.program.now certificate (rw c.in_ok-graph.ensures at c.in_ok-certificate.ensures)) (rw c.in_ok-graph.ensures at c.summary_of.ensures) printed
