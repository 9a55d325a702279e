use Rattle.std.proofs.lemmas.Result.{IfOk-weaker}
use Rattle.pc_rows.specs.Linear.{State}
use Rattle.pc_flow.specs.Carry.{HasVariable}
use Rattle.pc_flow.specs.Walk.{Pass, Keeps}
use Rattle.pc_back.specs.Needs.{HasNeed, BeforeIs}
use Rattle.pc_back.specs.Views.{view_of, need_says}
use Rattle.pc_back.proofs.States.{before_has}
use Rattle.pc_back.proofs.Viewing.{before_view}
use Rattle.pc_back.proofs.member.NeedBackward.before.Goals as goal

pub returns-clause-states : goal.returns-clause-states
returns-clause-states c =
    let need = c.args.self.now in
    let w = c.args.edge.now.what in
    IfOk-weaker c.before_edge.result (BeforeIs w need) (λ v. (s : State) → HasVariable w s → HasNeed v s → Keeps w s × ((t : State) → Pass w s t → HasNeed need t))
    (before_has w need) c.before_edge.ensures

pub returns-clause-view : goal.returns-clause-view
returns-clause-view c =
    let need = c.args.self.now in
    let w = c.args.edge.now.what in
    IfOk-weaker c.before_edge.result (BeforeIs w need) (λ v. need_says.before (view_of need) w (view_of v)) (before_view w need) c.before_edge.ensures
