-- Candidates: rows for the heads, found in turns of the heads, and the need of these rows. Integers are unbounded here, and there is no bound on the number of rows.
use Rattle.std.specs.Prelude.{ℕ, zero, suc, Bool, if◌then◌else◌, List, [], ◌∷◌, ◌++◌, length, map, drop, slice_set}
use Rattle.std.specs.List.{list_all}
use Rattle.pc_rows.specs.Linear.{Linear, difference_of, negation}
use Rattle.pc_rows.specs.Joins.{is_covered, with_row, joined}
use Rattle.pc_flow.specs.declared.point.PointInfo.{PointInfo}
use Rattle.pc_flow.specs.Annotation.{rows_at}
use Rattle.pc_flow.specs.Arc.{Arc}
use Rattle.pc_flow.specs.Carry.{owes, test_rows}
use Rattle.pc_flow.specs.Exact.{PointRows}
use Rattle.pc_flow.specs.Flow.{Flow}
use Rattle.pc_flow.specs.Incidence.{leaving}
use Rattle.pc_lower.specs.declared.mode.Mode.{Mode}
use Rattle.pc_lower.specs.declared.mode.Mode.TheVariants.{Hint, Plain, Tilt1, Tilt2, Escape}
use Rattle.pc_lower.specs.declared.rounds.TheConstants.{ROUNDS}
use Rattle.pc_lower.specs.Annotation.{is_head, no_rows}
use Rattle.pc_lower.specs.Need.{need}
use Rattle.pc_lower.specs.Operations.{after_all}
use Rattle.pc_lower.specs.Unchecked.{unchecked}

-- one row at head h, and none at other points
abbrev pub alone : Flow → ℕ → Linear → List (List Linear)
alone g h r = slice_set (no_rows g.points) h (r ∷ [])

-- a row at the head of an edge is steady where, with assertions left out, it and the edge's test cover what it needs at the edge's target
abbrev pub is_steady : Flow → Arc → Linear → Bool
is_steady g e r = list_all (λ x. is_covered x (r ∷ test_rows e.what)) (rows_at (need (unchecked g) (alone g e.from r)) e.to)

-- a row that is not steady, minus the first of some rows; without these, and where it is steady, the row
abbrev pub tilted : Flow → Arc → Linear → List Linear → Linear
tilted g e r [] = r
tilted g e r (t ∷ more) = if is_steady g e r then r else difference_of r t

-- the negation of the first of some rows; without these the row
abbrev pub escaped : Linear → List Linear → Linear
escaped r [] = r
escaped r (t ∷ more) = negation t

-- the lift of a row that is owed over an edge into the body of a loop
abbrev pub lift : Flow → Mode → Arc → Linear → Linear
lift g Hint e r = r
lift g Plain e r = r
lift g Tilt1 e r = tilted g e r (test_rows e.what)
lift g Tilt2 e r = tilted g e r (drop 1 (test_rows e.what))
lift g Escape e r = escaped r (test_rows e.what)

-- over any other edge from a head the lift is the row
abbrev pub lifted : Flow → Mode → Arc → Linear → Linear
lifted g m e r = if e.body then lift g m e r else r

-- a row that is owed is passed over where the head's rows at the beginning of its turn and those of the edge's test cover it; else its lift is joined
abbrev pub with_owed : Flow → Mode → Arc → List Linear → List Linear → Linear → List Linear
with_owed g m e begun rows r = if is_covered r (begun ++ test_rows e.what) then rows else with_row rows (lifted g m e r)

-- an edge from the head, for the rows `a` of the points: the rows that are owed over it, in order
abbrev pub with_edge_owed : Flow → Mode → PointRows → List Linear → List Linear → Arc → List Linear
with_edge_owed g m a begun rows e = after_all (with_owed g m e begun) rows (owes e.what (a e.to))

-- the rows of head h after a turn that begins with these rows of the points: its edges, in order
abbrev pub turned_from : Flow → Mode → ℕ → PointRows → List Linear
turned_from g m h a = after_all (with_edge_owed g m a (a h)) (a h) (leaving h g.edges)

-- a turn begins with the need of the heads' rows as they stand
abbrev pub turned : Flow → Mode → ℕ → List (List Linear) → List Linear
turned g m h heads = turned_from g m h (rows_at (need g heads))

-- a point has its turn where it is a head
abbrev pub turn : Flow → Mode → ℕ → List (List Linear) → List (List Linear)
turn g m h heads = if is_head g.points h then slice_set heads h (turned g m h heads) else heads

-- the turns of the points below number n, from the greatest down
abbrev pub turns_below : Flow → Mode → ℕ → List (List Linear) → List (List Linear)
turns_below g m zero heads = heads
turns_below g m (suc n) heads = turns_below g m n (turn g m n heads)

-- rounds, in each of which every head has a turn
abbrev pub rounds : ℕ → Flow → Mode → List (List Linear) → List (List Linear)
rounds zero g m heads = heads
rounds (suc n) g m heads = rounds n g m (turns_below g m (length g.points) heads)

-- the rows that the loop of a head tries, joined
abbrev pub hint_at : PointInfo → List Linear
hint_at point = if point.head then joined [] point.tried else []

abbrev pub hinted : Flow → List (List Linear)
hinted g = map hint_at g.points

-- the rounds begin with no rows
abbrev pub found : Flow → Mode → List (List Linear)
found g m = rounds ROUNDS g m (no_rows g.points)

-- the rows that a mode gives the heads
abbrev pub heads_by : Flow → Mode → List (List Linear)
heads_by g Hint = hinted g
heads_by g Plain = found g Plain
heads_by g Tilt1 = found g Tilt1
heads_by g Tilt2 = found g Tilt2
heads_by g Escape = found g Escape

-- the candidate of a mode
abbrev pub candidate : Flow → Mode → List (List Linear)
candidate g m = need g (heads_by g m)
