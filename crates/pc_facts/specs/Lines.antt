-- The lines that tell what is known at the points of a graph.
use Rattle.std.specs.Prelude.{ℕ, suc, pos, negsuc, ◌&&◌, Bool, false, if◌then◌else◌, List, [], ◌∷◌, ◌++◌, Option, Some, None, slice_get, length, filter, codes}
use Rattle.std.specs.Ordering.{int_eq}
use Rattle.pc_text.specs.Bytes.{Bytes}
use Rattle.pc_text.specs.Numerals.{numeral}
use Rattle.pc_text.specs.declared.place.Place.{Place}
use Rattle.pc_rows.specs.Joins.{is_at_most}
use Rattle.pc_rows.specs.Linear.{Linear, first_of, is_number}
use Rattle.pc_condition.specs.Conditions.{rows_text}
use Rattle.pc_flow.specs.declared.point.PointInfo.{PointInfo}

-- the row has no variable from number n on: without these it is the same
abbrev pub is_over : ℕ → Linear → Bool
is_over n r = is_at_most (first_of n r) r

abbrev pub shown : ℕ → List Linear → List Linear
shown n rows = filter (is_over n) rows

abbrev pub is_minus_one : Linear → Bool
is_minus_one r = is_number r && int_eq r.constant (negsuc 0)

-- the one row is -1
abbrev pub is_nothing : List Linear → Bool
is_nothing [] = false
is_nothing (r ∷ []) = is_minus_one r
is_nothing (r ∷ s ∷ rows) = false

-- what is known: the rows, without those that have a variable without a name
abbrev pub what_text : List Bytes → List Linear → Bytes
what_text names rows = if is_nothing rows then codes "nothing" else rows_text names (shown (length names) rows)

-- a place as line and column
abbrev pub place_text : Place → Bytes
place_text place = numeral (pos place.line) ++ codes ":" ++ numeral (pos place.column)

abbrev pub line_of : List Bytes → ℕ → Option PointInfo → List Linear → Bytes
line_of names p None rows = []
line_of names p (Some point) rows =
    codes "point " ++ numeral (pos p) ++ codes " " ++ place_text point.place ++ codes ": " ++ what_text names rows ++ codes "\n"

-- the line of point p
abbrev pub point_line : List Bytes → List PointInfo → ℕ → List Linear → Bytes
point_line names points p rows = line_of names p (slice_get points p) rows

-- the lines of the first points, from rows for each of them
abbrev pub lines_from : List Bytes → List PointInfo → ℕ → List (List Linear) → Bytes
lines_from names points p [] = []
lines_from names points p (rows ∷ more) = point_line names points p rows ++ lines_from names points (suc p) more
