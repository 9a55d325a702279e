use Rattle.std.proofs.lemmas.Result.{IfOk-weaker}
use Rattle.pc_words.proofs.Adding.{added}
use Rattle.pc_words.proofs.command.add_scripts.Goals as goal

pub returns : goal.returns
returns c =
    let one = added _ _ _ _ _ c.in_ok-command.ensures c.requires c.in_ok-run.ensures in
    IfOk-weaker c.add-2.result _ _ (λ r e. added _ _ _ _ _ e one c.in_ok-breach.ensures) c.add-2.ensures
