use Rattle.std.proofs.Common.{◌≡◌, ◌∙◌, ◌↔◌, None, ap, sym, rules}
use Rattle.std.proofs.lemmas.Result.{IfOk-weaker}
use Rattle.pc_rows.specs.Linear.{State, MeetsAll}
use Rattle.pc_lower.specs.Narrowing.{nothing}
use Rattle.pc_back.specs.Needs.{HasNeed, list_of}
use Rattle.pc_back.proofs.States.{listed_met}
use Rattle.pc_back.proofs.need.Need.list.Goals as goal

pub returns-in-None-clause-states : goal.returns-in-None-clause-states
returns-in-None-clause-states c =
    let need = c.args.self.now in
    let none : need ≡ None = search rules in
    IfOk-weaker c.never.result (λ rows. rows ≡ nothing) (λ rows. (s : State) → HasNeed need s ↔ MeetsAll s rows)
    (λ rows is. listed_met need rows (is ∙ ap list_of (sym none))) c.never.ensures
