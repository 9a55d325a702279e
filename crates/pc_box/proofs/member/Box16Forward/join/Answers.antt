use Rattle.std.proofs.Common.{◌≡◌, ◌∙◌, sym, ap, subst}
use Rattle.std.specs.Prelude.{◌⊎◌}
use Rattle.std.proofs.lemmas.Result.{IfOk-weaker}
use Rattle.pc_rows.specs.Linear.{State}
use Rattle.pc_box.specs.Boxes.{Box, HasBox, join_of}
use Rattle.pc_box.specs.Views.{view_of, box_says}
use Rattle.pc_box.proofs.Steps.{has_join}
use Rattle.pc_box.proofs.Viewing.{join_view}
use Rattle.pc_box.proofs.member.Box16Forward.join.Goals as goal

pub returns-clause-states : goal.returns-clause-states
returns-clause-states c =
    let a = c.args.self.now in
    let b = c.args.other.now in
    IfOk-weaker c.hull.result (λ v. v ≡ join_of a b) (λ v. (s : State) → HasBox a s ⊎ HasBox b s → HasBox v s)
    (λ v is s h. subst (λ (z : Box). HasBox z s) (sym is) (has_join a b s h)) c.hull.ensures

pub returns-clause-view : goal.returns-clause-view
returns-clause-view c =
    let a = c.args.self.now in
    let b = c.args.other.now in
    IfOk-weaker c.hull.result (λ v. v ≡ join_of a b) (λ v. box_says.join (view_of a) (view_of b) (view_of v)) (λ v is. ap view_of is ∙ join_view a b) c.hull.ensures
