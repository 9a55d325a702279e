use Rattle.std.proofs.Common.{rules, FitsSigned}
use Rattle.std.specs.Int.{w128}
use Rattle.std.proofs.lemmas.Int.{to_z-of_z}
use Rattle.std.proofs.lemmas.Result.{on_ok_weaker}
use Rattle.pc_show.proofs.RightTexts.{number_done}
use Rattle.pc_show.proofs.showing.rights.push_bound.Goals as goal

pub returns-in-At : goal.returns-in-At
returns-in-At c =
    let fits : FitsSigned w128 c.in-At.number = search rules in
    on_ok_weaker c.push_number.result (λ h. number_done c.args.bound c.in-At.number _ _ c.in-At.is (simp to_z-of_z at h)) c.push_number.ensures.added
