-- The lower widening: of rows that are found one round after the other.
use Rattle.std.specs.Prelude.{◌≡◌, ◌<◌, ◌≤◌, ◌↔◌, ◌⊎◌, List, [], ◌∷◌, length}
use Rattle.pc_rows.specs.Linear.{Linear, State, MeetsAll}
use Rattle.pc_rows.specs.Joins.{joined}
use Rattle.pc_rows.specs.declared.rows.TheConstants.{ROWS}
use Rattle.pc_rows.specs.Substitution.{never_row}
use Rattle.pc_entail.specs.Showing.{AllShown, SomeNotFound}

-- the row that no state meets
abbrev pub nothing : List Linear
nothing = never_row ∷ []

-- the same states meet both lists
abbrev pub MeetAlike : List Linear → List Linear → Type 0
MeetAlike a b = (s : State) → MeetsAll s a ↔ MeetsAll s b

-- nothing where the join has a row too many, and else rows that the same states meet as the join
abbrev pub IsJoined : List Linear → List Linear → List Linear → Type 0
IsJoined old newer rows =
    ((length (joined old newer) ≤ ROWS) × MeetAlike (joined old newer) rows) ⊎ ((ROWS < length (joined old newer)) × (rows ≡ nothing))

-- the old rows where they show each newer one; or nothing, and for some newer row a point meets the old rows and not it, so that no multipliers show it, or its question is not modest
abbrev pub IsKept : List Linear → List Linear → List Linear → Type 0
IsKept old newer rows = (AllShown old newer × (rows ≡ old)) ⊎ (SomeNotFound old newer × (rows ≡ nothing))

-- each state that meets the rows meets both lists
abbrev pub AreBelow : List Linear → List Linear → List Linear → Type 0
AreBelow old newer rows = (s : State) → MeetsAll s rows → MeetsAll s old × MeetsAll s newer
