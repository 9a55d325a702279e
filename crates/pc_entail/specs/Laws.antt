-- What all that stands on entailment cites of it.
use Rattle.std.specs.Prelude.{◌≡◌, Bool, true, List}
use Rattle.std.specs.List.{list_all}
use Rattle.pc_rows.specs.Linear.{Linear, State, MeetsAll}
use Rattle.pc_entail.specs.Showing.{AllShown}
use Rattle.pc_entail.specs.Reduction.{Reduced, RemovesShown}

-- rows that are shown are met where the rows that show them are
abbrev pub ShownRowsAreMet : Type 0
ShownRowsAreMet = (rows goals : List Linear) (s : State) → AllShown rows goals → MeetsAll s rows → MeetsAll s goals

-- rows have one list of reduced rows
abbrev pub ReductionsAreEqual : Type 0
ReductionsAreEqual = (rows a b : List Linear) → Reduced rows a → Reduced rows b → a ≡ b

-- what a test finds of each row it finds of each row that stays
abbrev pub TestsAreKept : Type 0
TestsAreKept = (test : Linear → Bool) (rows stay : List Linear) → RemovesShown rows stay → list_all test rows ≡ true → list_all test stay ≡ true
