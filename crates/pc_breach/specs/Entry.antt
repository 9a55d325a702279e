-- The rows of the entry at an entry state: they are evaluated in order, up to the first that is not met.
use Rattle.std.specs.Prelude.{pos, int_le, if◌then◌else◌, List, [], ◌∷◌, Option, Some, None}
use Rattle.std.specs.Bool.{MatchBool}
use Rattle.pc_rows.specs.Linear.{Linear, State, value}
use Rattle.pc_rows.specs.Points.{SumsFit}

-- each product of a coefficient and a value, and each sum of the constant and the products so far, is in range
abbrev pub Evaluates : State → Linear → Type 0
Evaluates s r = SumsFit r.constant r.coefficients s

-- so it is for each row up to the first that is not met
abbrev pub AreEvaluated : State → List Linear → Type 0
AreEvaluated s [] = Unit {0}
AreEvaluated s (r ∷ rows) = Evaluates s r × MatchBool (int_le (pos 0) (value r s)) (AreEvaluated s rows) (Unit {0})

-- the first row that is not met, or none where all are met
abbrev pub first_broken : State → List Linear → Option Linear
first_broken s [] = None
first_broken s (r ∷ rows) = if int_le (pos 0) (value r s) then first_broken s rows else Some r
