-- Which rows show which.
use Rattle.std.specs.Prelude.{◌⊎◌, pos, ◌≤ℤ◌, Bool, true, false, List, [], ◌∷◌, Result, Ok, Err}
use Rattle.std.specs.List.{AllByRecursion}
use Rattle.pc_rows.specs.declared.rows.NoMemory.{NoMemory}
use Rattle.pc_rows.specs.Linear.{Linear}
use Rattle.pc_rows.specs.Substitution.{never_row}
use Rattle.pc_rows.specs.Evidence.{System, Proof, Point}
use Rattle.pc_rows.specs.Shows.{Shows}
use Rattle.pc_rows.specs.Points.{AllMeetAt, Refutes}
use Rattle.pc_rows.specs.Modest.{IsModest}

-- do the rows show the goal
abbrev pub question : List Linear → Linear → System
question rows goal = record { premises = rows; goal = goal }

-- multipliers exist with which the rows show the goal
abbrev pub IsShown : List Linear → Linear → Type 0
IsShown rows goal = (p : Proof) × Shows rows goal p

-- the rows show each goal
abbrev pub AllShown : List Linear → List Linear → Type 0
AllShown rows goals = AllByRecursion (IsShown rows) goals

-- a rational point meets the rows and the negation of the goal
abbrev pub IsRefuted : List Linear → Linear → Type 0
IsRefuted rows goal = (p : Point) × Refutes rows goal p

-- why the rows are not found to show a goal: a point refutes it, or the question is not modest
abbrev pub IsNotFound : List Linear → Linear → Type 0
IsNotFound rows goal = IsRefuted rows goal ⊎ (IsModest (question rows goal) → ⊥)

-- whether the rows are found to show the goal
abbrev pub ShowIs : List Linear → Linear → Result Bool NoMemory → Type 0
ShowIs rows goal (Ok true) = IsShown rows goal
ShowIs rows goal (Ok false) = IsNotFound rows goal
ShowIs rows goal (Err e) = Unit {0}

-- that for some goal
abbrev pub SomeNotFound : List Linear → List Linear → Type 0
SomeNotFound rows [] = ⊥
SomeNotFound rows (goal ∷ goals) = IsNotFound rows goal ⊎ SomeNotFound rows goals

-- whether the rows are found to show each goal
abbrev pub ShowsAllIs : List Linear → List Linear → Result Bool NoMemory → Type 0
ShowsAllIs rows goals (Ok true) = AllShown rows goals
ShowsAllIs rows goals (Ok false) = SomeNotFound rows goals
ShowsAllIs rows goals (Err e) = Unit {0}

-- some rational point meets the rows
abbrev pub AreMetSomewhere : List Linear → Type 0
AreMetSomewhere rows = (p : Point) × (pos 1 ≤ℤ p.denominator) × AllMeetAt p rows

-- whether the rows are found to contradict each other
abbrev pub ContradictoryIs : List Linear → Result Bool NoMemory → Type 0
ContradictoryIs rows (Ok true) = IsShown rows never_row
ContradictoryIs rows (Ok false) = AreMetSomewhere rows ⊎ (IsModest (question rows never_row) → ⊥)
ContradictoryIs rows (Err e) = Unit {0}
