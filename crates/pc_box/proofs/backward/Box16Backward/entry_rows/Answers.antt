use Rattle.std.proofs.Common.{◌≡◌, ◌∙◌, ap, subst}
use Rattle.std.proofs.lemmas.Result.{IfOk-weaker}
use Rattle.pc_rows.specs.Linear.{State, MeetsAll, zero_from}
use Rattle.pc_box.specs.Boxes.{HasBox, rows_of}
use Rattle.pc_box.specs.Backward.{box_back_says}
use Rattle.pc_box.specs.Views.{view_of}
use Rattle.pc_box.proofs.Backs.{entry_tells}
use Rattle.pc_box.proofs.Viewing.{entry_view}
use Rattle.pc_box.proofs.backward.Box16Backward.entry_rows.Goals as goal

pub returns-clause-states : goal.returns-clause-states
returns-clause-states c =
    let b = c.args.self.now in
    let n = c.args.params in
    IfOk-weaker c.told.result (λ rows. rows ≡ rows_of c.in_ok-entry.entry) (λ rows. (s : State) → zero_from n s ≡ s → MeetsAll s rows → HasBox b s)
    (λ rows is s zeros met. entry_tells n b c.width-width.ensures s zeros (subst (MeetsAll s) (is ∙ ap rows_of c.in_ok-entry.ensures) met)) c.told.ensures

pub returns-clause-view : goal.returns-clause-view
returns-clause-view c =
    let b = c.args.self.now in
    let n = c.args.params in
    IfOk-weaker c.told.result (λ rows. rows ≡ rows_of c.in_ok-entry.entry) (λ rows. box_back_says.rows (view_of b) n rows)
    (λ rows is. is ∙ ap rows_of c.in_ok-entry.ensures ∙ entry_view n b) c.told.ensures
