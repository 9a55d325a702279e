use Rattle.std.proofs.Common.{◌≡◌, ◌∙◌, sym, subst}
use Rattle.std.proofs.lemmas.Result.{IfOk-weaker}
use Rattle.pc_rows.specs.Linear.{State, MeetsAll}
use Rattle.pc_box.specs.Boxes.{HasBox, rows_of}
use Rattle.pc_box.specs.Views.{view_of, box_says}
use Rattle.pc_box.proofs.Telling.{box_rows_met}
use Rattle.pc_box.proofs.Viewing.{rows_view}
use Rattle.pc_box.proofs.member.Box16Forward.rows.Goals as goal

pub returns-clause-states : goal.returns-clause-states
returns-clause-states c =
    let b = c.args.self.now in
    IfOk-weaker c.told.result (λ rows. rows ≡ rows_of b) (λ rows. (s : State) → HasBox b s → MeetsAll s rows)
    (λ rows is s has. subst (MeetsAll s) (sym is) (box_rows_met b c.width-width.ensures s has)) c.told.ensures

pub returns-clause-view : goal.returns-clause-view
returns-clause-view c =
    let b = c.args.self.now in
    IfOk-weaker c.told.result (λ rows. rows ≡ rows_of b) (λ rows. box_says.rows (view_of b) rows) (λ rows is. is ∙ rows_view b) c.told.ensures
