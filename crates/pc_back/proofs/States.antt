-- The states of values.
use Rattle.std.proofs.Common.{◌≡◌, ◌∙◌, ℕ, ℤ, pos, ◌≤ℤ◌, List, [], ◌∷◌, map, Some, None, sym, ap, subst}
use Rattle.std.specs.Prelude.{◌↔◌, MatchOption}
use Rattle.pc_rows.specs.Linear.{Linear, State, MeetsAll, value, first_of, zero_from}
use Rattle.pc_rows.specs.Joins.{joined}
use Rattle.pc_rows.proofs.First.{value_of_first}
use Rattle.pc_rows.proofs.Joining.{joined_meets}
use Rattle.pc_flow.specs.declared.what.What.{What}
use Rattle.pc_flow.specs.Carry.{HasVariable}
use Rattle.pc_flow.specs.Walk.{Pass, Keeps}
use Rattle.pc_entail.specs.Showing.{AllShown}
use Rattle.pc_entail.proofs.Finding.{shown_rows_are_met}
use Rattle.pc_lower.specs.Narrowing.{nothing, AreBelow}
use Rattle.pc_lower.specs.Need.{demanded}
use Rattle.pc_lower.proofs.Covering.{join_covers}
use Rattle.pc_lower.proofs.Narrowings.{nothing_is_met}
use Rattle.pc_lower.proofs.Paying.{pays}
use Rattle.pc_back.specs.Needs.{Rowed, HasNeed, list_of, BeforeIs, BothIs, EntryIs}

list_met : (need : Rowed) (s : State) → HasNeed need s ↔ MeetsAll s (list_of need)
list_met None s = ((λ h. absurd h), nothing_is_met s)
list_met (Some rows) s = ((λ h. h), (λ h. h))

pub listed_met : (need : Rowed) (rows : List Linear) → rows ≡ list_of need → (s : State) → HasNeed need s ↔ MeetsAll s rows
listed_met need rows is s = subst (λ (z : List Linear). HasNeed need s ↔ MeetsAll s z) (sym is) (list_met need s)

-- what is found to be shown is met
pub shown_has : (need : Rowed) (old : List Linear) → AllShown old (list_of need) → (s : State) → MeetsAll s old → HasNeed need s
shown_has need old shown s met = (list_met need s).1 (shown_rows_are_met old (list_of need) s shown met)

-- what is left of narrowed rows is met where both are
pub below_has : (old newer rows : List Linear) (need : Rowed) → AreBelow old newer rows → MatchOption need (rows ≡ nothing) (λ kept. kept ≡ rows) → (s : State) → HasNeed need s →
    MeetsAll s old × MeetsAll s newer
below_has old newer rows None below is s has = absurd has
below_has old newer rows (Some kept) below is s has = below s (subst (MeetsAll s) is has)

pub before_has : (w : What) (need new : Rowed) → BeforeIs w need new → (s : State) → HasVariable w s → HasNeed new s →
    Keeps w s × ((t : State) → Pass w s t → HasNeed need t)
before_has w None new is s var has = absurd (subst (λ (z : Rowed). HasNeed z s) is has)
before_has w (Some rows) None is s var has = absurd has
before_has w (Some rows) (Some new) is s var has =
    let before = joined [] (demanded w rows) in
    let paid = pays w s before rows var (join_covers w [] rows) (subst (MeetsAll s) is.1 has) in
    (paid.keeps, paid.passes)

pub both_has : (a b new : Rowed) → BothIs a b new → (s : State) → HasNeed new s → HasNeed a s × HasNeed b s
both_has None b new is s has = absurd (subst (λ (z : Rowed). HasNeed z s) is has)
both_has (Some a) None new is s has = absurd (subst (λ (z : Rowed). HasNeed z s) is has)
both_has (Some a) (Some b) None is s has = absurd has
both_has (Some a) (Some b) (Some new) is s has = joined_meets a b s (subst (MeetsAll s) is.1 has)

pub entry_has : (need : Rowed) (params : ℕ) (rows : List Linear) → EntryIs need params rows → (s : State) → zero_from params s ≡ s → MeetsAll s rows → HasNeed need s
entry_has None params rows is s zeros met = absurd (nothing_is_met s (subst (MeetsAll s) is met))
entry_has (Some all) params rows is s zeros met = (is s zeros).1 met

-- a state whose variables from some number on are 0 meets rows where it meets what is left of them without these variables
first_met : (params : ℕ) (rows : List Linear) (s : State) → zero_from params s ≡ s → MeetsAll s rows ↔ MeetsAll s (map (first_of params) rows)
first_met params [] s zeros = ((λ h. h), (λ h. h))
first_met params (r ∷ rows) s zeros =
    let same : value (first_of params r) s ≡ value r s = value_of_first params r s ∙ ap (value r) zeros in
    let more = first_met params rows s zeros in
    ((λ h. (subst (λ (z : ℤ). pos 0 ≤ℤ z) (sym same) h.0, more.0 h.1)), (λ h. (subst (λ (z : ℤ). pos 0 ≤ℤ z) same h.0, more.1 h.1)))

pub entry_is : (all first : List Linear) (params : ℕ) (rows : List Linear) → first ≡ map (first_of params) all → ((s : State) → MeetsAll s first ↔ MeetsAll s rows) →
    EntryIs (Some all) params rows
entry_is all first params rows is same s zeros =
    let without = subst (λ (z : List Linear). MeetsAll s all ↔ MeetsAll s z) (sym is) (first_met params all s zeros) in
    let reduced = same s in
    ((λ h. reduced.0 (without.0 h)), (λ h. without.1 (reduced.1 h)))
