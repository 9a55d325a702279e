use Rattle.std.proofs.Common.{◌≡◌, ◌∙◌, ap, subst}
use Rattle.std.proofs.lemmas.Result.{IfOk-weaker}
use Rattle.pc_rows.specs.Linear.{State}
use Rattle.pc_box.specs.Boxes.{Box, HasBox}
use Rattle.pc_box.specs.Meeting.{both_of}
use Rattle.pc_box.specs.Backward.{box_back_says}
use Rattle.pc_box.specs.Views.{view_of}
use Rattle.pc_box.proofs.Intersecting.{both_exact}
use Rattle.pc_box.proofs.Viewing.{both_view}
use Rattle.pc_box.proofs.backward.Box16Backward.both.Goals as goal

pub returns-clause-states : goal.returns-clause-states
returns-clause-states c =
    let a = c.args.self.now in
    let b = c.args.other.now in
    IfOk-weaker c.both_boxes.result (λ v. v ≡ both_of a b) (λ v. (s : State) → HasBox v s → HasBox a s × HasBox b s)
    (λ v is s h. (both_exact a b s).0 (subst (λ (z : Box). HasBox z s) is h)) c.both_boxes.ensures

pub returns-clause-view : goal.returns-clause-view
returns-clause-view c =
    let a = c.args.self.now in
    let b = c.args.other.now in
    IfOk-weaker c.both_boxes.result (λ v. v ≡ both_of a b) (λ v. box_back_says.both (view_of a) (view_of b) (view_of v)) (λ v is. ap view_of is ∙ both_view a b) c.both_boxes.ensures
