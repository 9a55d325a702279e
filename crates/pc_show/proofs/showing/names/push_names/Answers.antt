use Rattle.std.proofs.Common.{arith}
use Rattle.std.proofs.lemmas.Result.{on_ok_weaker}
use Rattle.pc_show.proofs.NameTexts.{names_done}
use Rattle.pc_show.proofs.showing.names.push_names.Goals as goal

pub returns : goal.returns
returns c =
    on_ok_weaker c.push_further.result
    (λ h. names_done c.args.names.now.names c.args.from c.args.to c.at.result.now c.args.text.now _ _ (omega arith) c.requires.within c.at.ensures c.in_ok-push_all.ensures.added h) c.push_further.ensures
