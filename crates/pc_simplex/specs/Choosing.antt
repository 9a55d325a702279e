-- Which line and which column of a table are exchanged.
use Rattle.std.specs.Prelude.{ℕ, ◌+◌, nat_lt, ℤ, pos, int_lt, Bool, true, false, List, [], ◌∷◌, Option, Some, None, slice_index_or, if◌then◌else◌, ◌≢◌, ◌<◌, length}
use Rattle.pc_rows.specs.declared.row.TheConstants.{VARIABLES}
use Rattle.pc_rows.specs.Linear.{is_zero}
use Rattle.pc_simplex.specs.declared.label.Label.{Label}
use Rattle.pc_simplex.specs.declared.label.Label.TheVariants.{Variable, Row}
use Rattle.pc_simplex.specs.declared.choice.Choice.{Choice}
use Rattle.pc_simplex.specs.declared.choice.Choice.TheVariants.{Met, Stuck, Exchange}
use Rattle.pc_simplex.specs.Values.{Line, Table, Pick}

-- the order of labels: variables by number, and then rows by number
abbrev pub is_before : Label → Label → Bool
is_before (Variable v) (Variable w) = nat_lt v w
is_before (Variable v) (Row j) = true
is_before (Row i) (Variable w) = false
is_before (Row i) (Row j) = nat_lt i j

-- the earlier of a label at place i and what was picked before
abbrev pub earlier : Option Pick → ℕ → Option Label → Option Pick
earlier best i None = best
earlier None i (Some l) = Some (record { index = i; label = l })
earlier (Some p) i (Some l) = if is_before l p.label then Some (record { index = i; label = l }) else Some p

-- of the labels that may be picked, whose places are counted from i on, the first in order
abbrev pub first_from : ℕ → Option Pick → List (Option Label) → Option Pick
first_from i best [] = best
first_from i best (c ∷ cs) = first_from (i + 1) (earlier best i c) cs

abbrev pub first_of : List (Option Label) → Option Pick
first_of cs = first_from 0 None cs

-- a line may leave where it is labelled by a row, and its constant is negative
abbrev pub leaving : Label → ℤ → Option Label
leaving (Variable v) c = None
leaving (Row i) c = if int_lt c (pos 0) then Some (Row i) else None

abbrev pub leaving_each : List Line → List (Option Label)
leaving_each [] = []
leaving_each (l ∷ ls) = leaving l.label l.constant ∷ leaving_each ls

-- a column may enter where the line that leaves has it: a variable with any sign, and a row with a number above 0
abbrev pub entering : Label → ℤ → Option Label
entering (Variable v) x = if is_zero x then None else Some (Variable v)
entering (Row i) x = if int_lt (pos 0) x then Some (Row i) else None

abbrev pub entering_each : List Label → List ℤ → List (Option Label)
entering_each [] xs = []
entering_each (c ∷ cs) [] = []
entering_each (c ∷ cs) (x ∷ xs) = entering c x ∷ entering_each cs xs

abbrev pub no_line : Line
no_line = record { label = Variable 0; constant = pos 0; numbers = [] }

-- line r of a table
abbrev pub line_at : Table → ℕ → Line
line_at t r = slice_index_or t.lines r no_line

-- the number of a line in column j
abbrev pub number_at : Line → ℕ → ℤ
number_at l j = slice_index_or l.numbers j (pos 0)

-- the column that is exchanged with line r
abbrev pub chosen_in : ℕ → Option Pick → Choice
chosen_in r None = Stuck r
chosen_in r (Some q) = Exchange r q.index

-- the line that leaves and the column that enters; where no line may leave the rows are met, and where no column may enter the line is stuck
abbrev pub chosen_by : Table → Option Pick → Choice
chosen_by t None = Met
chosen_by t (Some p) = chosen_in p.index (first_of (entering_each t.columns (line_at t p.index).numbers))

abbrev pub chosen : Table → Choice
chosen t = chosen_by t (first_of (leaving_each t.lines))

-- a line that is chosen is one of the table, and a column that is chosen has a number other than 0 there
abbrev pub IsChoice : Table → Choice → Type 0
IsChoice t Met = Unit {0}
IsChoice t (Stuck r) = r < length t.lines
IsChoice t (Exchange r j) = (r < length t.lines) × (j < VARIABLES) × (number_at (line_at t r) j ≢ pos 0)
