use Rattle.std.proofs.Common.{◌≡◌, ◌∙◌, ap, subst}
use Rattle.std.proofs.lemmas.Result.{IfOk-weaker}
use Rattle.pc_rows.specs.Linear.{State}
use Rattle.pc_flow.specs.Carry.{HasVariable}
use Rattle.pc_flow.specs.Walk.{Pass, Keeps}
use Rattle.pc_box.specs.Boxes.{Box, HasBox}
use Rattle.pc_box.specs.Backward.{before_of, box_back_says}
use Rattle.pc_box.specs.Views.{view_of}
use Rattle.pc_box.proofs.Backs.{box_before}
use Rattle.pc_box.proofs.Viewing.{before_view}
use Rattle.pc_box.proofs.backward.Box16Backward.before.Goals as goal

pub returns-clause-states : goal.returns-clause-states
returns-clause-states c =
    let b = c.args.self.now in
    let w = c.args.edge.now.what in
    IfOk-weaker c.before_edge.result (λ v. v ≡ before_of w b) (λ v. (s : State) → HasVariable w s → HasBox v s → Keeps w s × ((t : State) → Pass w s t → HasBox b t))
    (λ v is s var has. box_before w b s var (subst (λ (z : Box). HasBox z s) is has)) c.before_edge.ensures

pub returns-clause-view : goal.returns-clause-view
returns-clause-view c =
    let b = c.args.self.now in
    let w = c.args.edge.now.what in
    IfOk-weaker c.before_edge.result (λ v. v ≡ before_of w b) (λ v. box_back_says.before (view_of b) w (view_of v)) (λ v is. ap view_of is ∙ before_view w b) c.before_edge.ensures
