-- Conditions on entry states that are needed.
use Rattle.std.specs.Prelude.{◌⊎◌, List}
use Rattle.pc_rows.specs.Linear.{Linear, State, MeetsSome}
use Rattle.pc_lower.specs.Tame.{IsTame}
use Rattle.pc_app.specs.Subjects.{Subject}
use Rattle.pc_app.specs.Suffices.{IsEntry}

-- from every entry state that does not meet the condition some list of choices leads to a violated assertion
abbrev pub IsNeeded : Subject → List (List Linear) → Type 0
IsNeeded subject condition = (s : State) → IsEntry subject s → MeetsSome s condition ⊎ subject.HasViolation s

-- no loops, assumptions and tests but `*`, and all numbers are small on the way back
pub record IsTameAndStraight (subject : Subject) : Type 0 where
  pub straight : subject.IsStraight
  pub tame : IsTame subject.flow
