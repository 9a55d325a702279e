-- The turns of a search.
use Rattle.std.specs.Prelude.{ℕ, zero, suc, ◌+◌, pos, List, [], ◌∷◌, length, Option, Some, None, if◌then◌else◌}
use Rattle.pc_rows.specs.declared.row.TheConstants.{VARIABLES}
use Rattle.pc_rows.specs.Linear.{Linear, is_in_range, negation}
use Rattle.pc_rows.specs.Evidence.{System}
use Rattle.pc_rows.specs.Modest.{refuting}
use Rattle.pc_simplex.specs.declared.label.Label.{Label}
use Rattle.pc_simplex.specs.declared.label.Label.TheVariants.{Variable, Row}
use Rattle.pc_simplex.specs.declared.choice.Choice.{Choice}
use Rattle.pc_simplex.specs.declared.choice.Choice.TheVariants.{Met, Stuck, Exchange}
use Rattle.pc_simplex.specs.declared.guess.Guess.{Guess}
use Rattle.pc_simplex.specs.declared.guess.Guess.TheVariants.{Shown, Point, GaveUp}
use Rattle.pc_simplex.specs.declared.turns.TheConstants.{PIVOTS}
use Rattle.pc_simplex.specs.Values.{Line, Table}
use Rattle.pc_simplex.specs.Choosing.{chosen}
use Rattle.pc_simplex.specs.Pivoting.{pivoted}
use Rattle.pc_simplex.specs.Found.{point_of, proof_of}

-- the n variables from v on
unfoldable pub variables_from : ℕ → ℕ → List Label
variables_from zero v = []
variables_from (suc n) v = Variable v ∷ variables_from n (v + 1)

-- the rows from row i on, by their coefficients at the variables
abbrev pub lines_of : ℕ → List Linear → List Line
lines_of i [] = []
lines_of i (r ∷ rs) = (record { label = Row i; constant = r.constant; numbers = r.coefficients }) ∷ lines_of (i + 1) rs

-- the premises in order and then the negated goal
abbrev pub first_table : System → Table
first_table s = record { denominator = pos 1; columns = variables_from VARIABLES 0; lines = lines_of 0 (refuting s) }

-- the search goes on with the table after a pivot, and gives up where there is none
abbrev pub carried : (Table → Guess) → Option Table → Guess
carried go (Some t) = go t
carried go None = GaveUp

-- one turn: what is found, before it is checked, where go says what is found after a pivot
abbrev pub turn_with : (Table → Guess) → ℕ → Table → Choice → Guess
turn_with go premises t Met = Point (point_of t)
turn_with go premises t (Stuck r) = Shown (proof_of premises t r)
turn_with go premises t (Exchange r j) = carried go (pivoted t r j)

-- the turns of a table of so many premises, with n pivots left
unfoldable pub turns : ℕ → ℕ → Table → Guess
turns premises zero t = turn_with (λ next. GaveUp) premises t (chosen t)
turns premises (suc n) t = turn_with (turns premises n) premises t (chosen t)

-- what is found for a system, before it is checked
abbrev pub found : System → Guess
found s = if is_in_range (negation s.goal) then turns (length s.premises) PIVOTS (first_table s) else GaveUp
