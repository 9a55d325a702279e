use Rattle.std.proofs.lemmas.Result.{IfOk-weaker}
use Rattle.pc_rows.specs.Linear.{State}
use Rattle.pc_back.specs.Needs.{HasNeed, BothIs}
use Rattle.pc_back.specs.Views.{view_of, need_says}
use Rattle.pc_back.proofs.States.{both_has}
use Rattle.pc_back.proofs.Viewing.{both_view}
use Rattle.pc_back.proofs.member.NeedBackward.both.Goals as goal

pub returns-clause-states : goal.returns-clause-states
returns-clause-states c =
    let a = c.args.self.now in
    let b = c.args.other.now in
    IfOk-weaker c.with.result (BothIs a b) (λ v. (s : State) → HasNeed v s → HasNeed a s × HasNeed b s) (both_has a b) c.with.ensures

pub returns-clause-view : goal.returns-clause-view
returns-clause-view c =
    let a = c.args.self.now in
    let b = c.args.other.now in
    IfOk-weaker c.with.result (BothIs a b) (λ v. need_says.both (view_of a) (view_of b) (view_of v)) (both_view a b) c.with.ensures
