-- Conditions on entry states that suffice.
use Rattle.std.specs.Prelude.{◌≡◌, List, length}
use Rattle.pc_rows.specs.Linear.{Linear, State, MeetsSome}
use Rattle.pc_app.specs.Subjects.{Subject}

-- an entry state gives an integer to each parameter
abbrev pub IsEntry : Subject → State → Type 0
IsEntry subject s = length s ≡ subject.flow.params

-- every entry state that meets the condition is safe
abbrev pub Suffices : Subject → List (List Linear) → Type 0
Suffices subject condition = (s : State) → IsEntry subject s → MeetsSome s condition → subject.Safe s
