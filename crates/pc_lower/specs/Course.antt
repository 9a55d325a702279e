-- The operations by which a candidate is found, in order.
use Rattle.std.specs.Prelude.{ℕ, zero, suc, nat_lt, if◌then◌else◌, List, [], ◌∷◌, ◌++◌, length, drop}
use Rattle.pc_rows.specs.Linear.{Linear}
use Rattle.pc_rows.specs.Joins.{is_covered}
use Rattle.pc_flow.specs.declared.point.PointInfo.{PointInfo}
use Rattle.pc_flow.specs.Annotation.{rows_at}
use Rattle.pc_flow.specs.Arc.{Arc}
use Rattle.pc_flow.specs.Carry.{owes, test_rows}
use Rattle.pc_flow.specs.Exact.{PointRows}
use Rattle.pc_flow.specs.Flow.{Flow}
use Rattle.pc_flow.specs.Incidence.{leaving}
use Rattle.pc_lower.specs.declared.mode.Mode.{Mode}
use Rattle.pc_lower.specs.declared.mode.Mode.TheVariants.{Hint, Plain, Tilt1, Tilt2, Escape}
use Rattle.pc_lower.specs.declared.rounds.TheConstants.{ROUNDS}
use Rattle.pc_lower.specs.Annotation.{is_head, no_rows}
use Rattle.pc_lower.specs.Candidate.{alone, is_steady, lifted, with_owed, with_edge_owed, turn, turns_below, heads_by}
use Rattle.pc_lower.specs.Need.{need}
use Rattle.pc_lower.specs.Operations.{Operation, Joins, Subtracts, Negates, operations_of_all, carries, point_operations, operations}
use Rattle.pc_lower.specs.Unchecked.{unchecked}

-- at the points from number low on and below number n, from the greatest down
abbrev pub operations_between : Flow → PointRows → ℕ → ℕ → List Operation
operations_between g a low zero = []
operations_between g a low (suc n) = if nat_lt n low then [] else (point_operations g a n ++ operations_between g a low n)

-- of the need, at the points after point h alone
abbrev pub operations_after : Flow → List (List Linear) → ℕ → List Operation
operations_after g heads h = operations_between g (rows_at (need g heads)) (suc h) (length g.points)

-- of the test whether a row at head h is steady
abbrev pub steady_operations : Flow → ℕ → Linear → List Operation
steady_operations g h r = operations_after (unchecked g) (alone g h r) h

-- the test is made only where there is a row to subtract
abbrev pub tilt_operations : Flow → Arc → Linear → List Linear → List Operation
tilt_operations g e r [] = []
tilt_operations g e r (t ∷ more) = steady_operations g e.from r ++ (if is_steady g e r then [] else Subtracts r t ∷ [])

abbrev pub escape_operations : List Linear → List Operation
escape_operations [] = []
escape_operations (t ∷ more) = Negates t ∷ []

-- of a row's lift
abbrev pub lift_operations : Flow → Mode → Arc → Linear → List Operation
lift_operations g Hint e r = []
lift_operations g Plain e r = []
lift_operations g Tilt1 e r = tilt_operations g e r (test_rows e.what)
lift_operations g Tilt2 e r = tilt_operations g e r (drop 1 (test_rows e.what))
lift_operations g Escape e r = escape_operations (test_rows e.what)

abbrev pub lifted_operations : Flow → Mode → Arc → Linear → List Operation
lifted_operations g m e r = if e.body then lift_operations g m e r else []

-- of a row that is owed: it is passed over, or lifted and joined
abbrev pub owed_operations : Flow → Mode → Arc → List Linear → List Linear → Linear → List Operation
owed_operations g m e begun rows r =
    if is_covered r (begun ++ test_rows e.what) then [] else (lifted_operations g m e r ++ Joins rows (lifted g m e r ∷ []) ∷ [])

-- the rows at the targets of all edges from the head are carried back
abbrev pub edges_carries : PointRows → List Arc → List Operation
edges_carries a [] = []
edges_carries a (e ∷ edges) = carries e.what (a e.to) ++ edges_carries a edges

-- of an edge from the head
abbrev pub edge_owed_operations : Flow → Mode → PointRows → List Linear → List Linear → Arc → List Operation
edge_owed_operations g m a begun rows e = operations_of_all (with_owed g m e begun) (owed_operations g m e begun) rows (owes e.what (a e.to))

-- what the edges of a head owe is carried back, all of it, and then the edges are taken in order
abbrev pub turned_from_operations : Flow → Mode → ℕ → PointRows → List Operation
turned_from_operations g m h a =
    edges_carries a (leaving h g.edges) ++ operations_of_all (with_edge_owed g m a (a h)) (edge_owed_operations g m a (a h)) (a h) (leaving h g.edges)

-- of a turn: first the need after the head
abbrev pub turned_operations : Flow → Mode → ℕ → List (List Linear) → List Operation
turned_operations g m h heads = operations_after g heads h ++ turned_from_operations g m h (rows_at (need g heads))

abbrev pub turn_operations : Flow → Mode → ℕ → List (List Linear) → List Operation
turn_operations g m h heads = if is_head g.points h then turned_operations g m h heads else []

abbrev pub turns_operations : Flow → Mode → ℕ → List (List Linear) → List Operation
turns_operations g m zero heads = []
turns_operations g m (suc n) heads = turn_operations g m n heads ++ turns_operations g m n (turn g m n heads)

abbrev pub rounds_operations : ℕ → Flow → Mode → List (List Linear) → List Operation
rounds_operations zero g m heads = []
rounds_operations (suc n) g m heads = turns_operations g m (length g.points) heads ++ rounds_operations n g m (turns_below g m (length g.points) heads)

-- at each head the rows that its loop tries are joined
abbrev pub hint_at_operations : PointInfo → List Operation
hint_at_operations point = if point.head then Joins [] point.tried ∷ [] else []

abbrev pub hint_operations : List PointInfo → List Operation
hint_operations [] = []
hint_operations (point ∷ points) = hint_at_operations point ++ hint_operations points

abbrev pub found_operations : Flow → Mode → List Operation
found_operations g m = rounds_operations ROUNDS g m (no_rows g.points)

abbrev pub heads_operations : Flow → Mode → List Operation
heads_operations g Hint = hint_operations g.points
heads_operations g Plain = found_operations g Plain
heads_operations g Tilt1 = found_operations g Tilt1
heads_operations g Tilt2 = found_operations g Tilt2
heads_operations g Escape = found_operations g Escape

-- of a candidate
abbrev pub candidate_operations : Flow → Mode → List Operation
candidate_operations g m = heads_operations g m ++ operations g (heads_by g m)
