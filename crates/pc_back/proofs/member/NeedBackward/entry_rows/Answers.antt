use Rattle.std.proofs.Common.{◌≡◌, sym, subst}
use Rattle.std.proofs.lemmas.Result.{IfOk-weaker}
use Rattle.pc_rows.specs.Linear.{State, MeetsAll, zero_from}
use Rattle.pc_back.specs.Needs.{HasNeed, EntryIs}
use Rattle.pc_back.specs.Views.{view_of, need_says}
use Rattle.pc_back.proofs.States.{entry_has}
use Rattle.pc_back.proofs.Viewing.{entry_view}
use Rattle.pc_back.proofs.member.NeedBackward.entry_rows.Goals as goal

pub returns-clause-states : goal.returns-clause-states
returns-clause-states c =
    let need = c.args.self.now in
    let params = c.args.params in
    let found = c.in_ok-entry_rows.field-0 in
    IfOk-weaker c.listed-2.result (λ rows. rows ≡ found) (λ rows. (s : State) → zero_from params s ≡ s → MeetsAll s rows → HasNeed need s)
    (λ rows is. entry_has need params rows (subst (EntryIs need params) (sym is) c.in_ok-entry_rows.ensures)) c.listed-2.ensures

pub returns-clause-view : goal.returns-clause-view
returns-clause-view c =
    let need = c.args.self.now in
    let params = c.args.params in
    let found = c.in_ok-entry_rows.field-0 in
    IfOk-weaker c.listed-2.result (λ rows. rows ≡ found) (λ rows. need_says.rows (view_of need) params rows)
    (λ rows is. entry_view need params rows (subst (EntryIs need params) (sym is) c.in_ok-entry_rows.ensures)) c.listed-2.ensures
