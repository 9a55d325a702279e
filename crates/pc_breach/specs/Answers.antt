-- What is answered of an entry state of a graph.
use Rattle.std.specs.Prelude.{◌≡◌, ℤ, List, length, Result, Ok, Err}
use Rattle.std.specs.List.{AllByRecursion as Each}
use Rattle.pc_rows.specs.Linear.{Linear, State, MeetsAll}
use Rattle.pc_rows.specs.declared.rows.NoMemory.{NoMemory}
use Rattle.pc_flow.specs.Annotation.{rows_at}
use Rattle.pc_flow.specs.Flow.{Flow}
use Rattle.pc_lower.specs.Annotation.{no_rows}
use Rattle.pc_lower.specs.Need.{need}
use Rattle.pc_lower.specs.Operations.{Fits, operations}
use Rattle.pc_breach.specs.declared.answer.Breach.{Breach}
use Rattle.pc_breach.specs.declared.answer.Breach.TheVariants.{Past, Safe, Choices}
use Rattle.pc_breach.specs.Entry.{AreEvaluated, first_broken}
use Rattle.pc_breach.specs.Following.{followed, after_row}

-- the rows that the points need
abbrev pub needed : Flow → List (List Linear)
needed g = need g (no_rows g.points)

-- the rows of the entry
abbrev pub entry_rows : Flow → List Linear
entry_rows g = rows_at (needed g) 0

-- the need is computed in range and with no row too many, and so are the rows of the entry evaluated
pub record IsSettled (g : Flow) (s : State) : Type 0 where
  pub need : Each Fits (operations g (no_rows g.points))
  pub entry : AreEvaluated s (entry_rows g)

-- the choices by which the first row of the entry is followed that is not met
abbrev pub choices : Flow → State → List ℤ
choices g s = after_row (followed g.edges (rows_at (needed g)) (length g.points) 0) (first_broken s (entry_rows g))

-- Past exactly where it is not settled, Safe exactly where it is and all rows of the entry are met, and choices otherwise; want of memory is free
abbrev pub BreachIs : Flow → State → Result Breach NoMemory → Type 0
BreachIs g s (Ok Past) = IsSettled g s → ⊥
BreachIs g s (Ok Safe) = IsSettled g s × MeetsAll s (entry_rows g)
BreachIs g s (Ok (Choices cs)) = IsSettled g s × (MeetsAll s (entry_rows g) → ⊥) × (cs ≡ choices g s)
BreachIs g s (Err e) = Unit {0}

-- the answer is not that it is not settled
abbrev pub IsNotPast : Result Breach NoMemory → Type 0
IsNotPast (Ok Past) = ⊥
IsNotPast (Ok Safe) = Unit {0}
IsNotPast (Ok (Choices cs)) = Unit {0}
IsNotPast (Err e) = Unit {0}
