use Rattle.std.proofs.Common.{◌≡◌, ◌∙◌, sym, ap, subst}
use Rattle.std.proofs.lemmas.Result.{IfOk-weaker}
use Rattle.pc_rows.specs.Linear.{State}
use Rattle.pc_flow.specs.Carry.{HasVariable}
use Rattle.pc_flow.specs.Walk.{Pass}
use Rattle.pc_box.specs.Boxes.{Box, HasBox}
use Rattle.pc_box.specs.Forward.{after_of}
use Rattle.pc_box.specs.Views.{view_of, box_says}
use Rattle.pc_box.proofs.Steps.{has_after}
use Rattle.pc_box.proofs.Viewing.{after_view}
use Rattle.pc_box.proofs.member.Box16Forward.after.Goals as goal

pub returns-clause-states : goal.returns-clause-states
returns-clause-states c =
    let b = c.args.self.now in
    let w = c.args.edge.now.what in
    IfOk-weaker c.over.result (λ v. v ≡ after_of w b) (λ v. (s t : State) → HasVariable w s → HasBox b s → Pass w s t → HasBox v t)
    (λ v is s t var has pass. subst (λ (z : Box). HasBox z t) (sym is) (has_after w b s t var has pass)) c.over.ensures

pub returns-clause-view : goal.returns-clause-view
returns-clause-view c =
    let b = c.args.self.now in
    let w = c.args.edge.now.what in
    IfOk-weaker c.over.result (λ v. v ≡ after_of w b) (λ v. box_says.after (view_of b) w (view_of v)) (λ v is. ap view_of is ∙ after_view w b) c.over.ensures
