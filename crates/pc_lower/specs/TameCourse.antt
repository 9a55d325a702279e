-- Candidates whose numbers stay small while they are found.
use Rattle.std.specs.Prelude.{◌≡◌, ◌↔◌, ℕ, zero, suc, if◌then◌else◌, List, [], ◌∷◌, ◌++◌, length, drop}
use Rattle.std.specs.List.{AllByRecursion as Each}
use Rattle.pc_rows.specs.Linear.{Linear}
use Rattle.pc_rows.specs.Joins.{is_covered}
use Rattle.pc_flow.specs.Annotation.{rows_at}
use Rattle.pc_flow.specs.Arc.{Arc}
use Rattle.pc_flow.specs.Carry.{owes, test_rows}
use Rattle.pc_flow.specs.Exact.{PointRows}
use Rattle.pc_flow.specs.Flow.{Flow}
use Rattle.pc_flow.specs.Incidence.{leaving}
use Rattle.pc_flow.specs.Shape.{NoHeads, IsGraph}
use Rattle.pc_lower.specs.declared.mode.Mode.{Mode}
use Rattle.pc_lower.specs.declared.mode.Mode.TheVariants.{Hint, Plain, Tilt1, Tilt2, Escape}
use Rattle.pc_lower.specs.declared.rounds.TheConstants.{ROUNDS}
use Rattle.pc_lower.specs.Annotation.{is_head, no_rows}
use Rattle.pc_lower.specs.Candidate.{alone, with_owed, with_edge_owed, turned, turn, turns_below, candidate}
use Rattle.pc_lower.specs.Course.{candidate_operations}
use Rattle.pc_lower.specs.Need.{need}
use Rattle.pc_lower.specs.Operations.{Fits}
use Rattle.pc_lower.specs.Tame.{HasTameNumbers, AreTame, IsTame}
use Rattle.pc_lower.specs.Unchecked.{unchecked}

-- what is collected in steps over a list, where `out` is what one step gives
abbrev pub collected : {S X O : Type 0} → (S → X → S) → (S → X → List O) → S → List X → List O
collected step out s [] = []
collected step out s (x ∷ xs) = out s x ++ collected step out (step s x) xs

-- the rows that the points after point h need
abbrev pub rows_after : Flow → List (List Linear) → ℕ → List (List Linear)
rows_after g heads h = drop (suc h) (need g heads)

-- the lists of rows that the test computes whether a row at head h is steady, which is made where there is a row to subtract
abbrev pub steady_lists : Flow → ℕ → Linear → List Linear → List (List Linear)
steady_lists g h r [] = []
steady_lists g h r (t ∷ more) = rows_after (unchecked g) (alone g h r) h

abbrev pub lift_lists : Flow → Mode → Arc → Linear → List (List Linear)
lift_lists g Hint e r = []
lift_lists g Plain e r = []
lift_lists g Tilt1 e r = steady_lists g e.from r (test_rows e.what)
lift_lists g Tilt2 e r = steady_lists g e.from r (drop 1 (test_rows e.what))
lift_lists g Escape e r = []

abbrev pub lifted_lists : Flow → Mode → Arc → Linear → List (List Linear)
lifted_lists g m e r = if e.body then lift_lists g m e r else []

abbrev pub owed_lists : Flow → Mode → Arc → List Linear → List Linear → Linear → List (List Linear)
owed_lists g m e begun rows r = if is_covered r (begun ++ test_rows e.what) then [] else lifted_lists g m e r

abbrev pub edge_owed_lists : Flow → Mode → PointRows → List Linear → List Linear → Arc → List (List Linear)
edge_owed_lists g m a begun rows e = collected (with_owed g m e begun) (owed_lists g m e begun) rows (owes e.what (a e.to))

-- those of the steady tests of a turn
abbrev pub tested_lists : Flow → Mode → ℕ → PointRows → List (List Linear)
tested_lists g m h a = collected (with_edge_owed g m a (a h)) (edge_owed_lists g m a (a h)) (a h) (leaving h g.edges)

-- of a turn: the need after the head, those of the steady tests, and the head's rows afterwards
abbrev pub turn_lists : Flow → Mode → ℕ → List (List Linear) → List (List Linear)
turn_lists g m h heads =
    if is_head g.points h then rows_after g heads h ++ (tested_lists g m h (rows_at (need g heads)) ++ turned g m h heads ∷ []) else []

abbrev pub turns_lists : Flow → Mode → ℕ → List (List Linear) → List (List Linear)
turns_lists g m zero heads = []
turns_lists g m (suc n) heads = turn_lists g m n heads ++ turns_lists g m n (turn g m n heads)

abbrev pub rounds_lists : ℕ → Flow → Mode → List (List Linear) → List (List Linear)
rounds_lists zero g m heads = []
rounds_lists (suc n) g m heads = turns_lists g m (length g.points) heads ++ rounds_lists n g m (turns_below g m (length g.points) heads)

abbrev pub found_lists : Flow → Mode → List (List Linear)
found_lists g m = rounds_lists ROUNDS g m (no_rows g.points)

abbrev pub heads_lists : Flow → Mode → List (List Linear)
heads_lists g Hint = []
heads_lists g Plain = found_lists g Plain
heads_lists g Tilt1 = found_lists g Tilt1
heads_lists g Tilt2 = found_lists g Tilt2
heads_lists g Escape = found_lists g Escape

-- the numbers of the edges are tame, and so are the rows that are computed in each turn and in each steady test, and those of the candidate
pub record IsTameFor (g : Flow) (m : Mode) : Type 0 where
  pub edges : Each (λ e. HasTameNumbers e.what) g.edges
  pub rounds : Each AreTame (heads_lists g m)
  pub candidate : Each AreTame (candidate g m)

-- a tame candidate is found: no operation leaves the range or has a row too many
abbrev pub TameCandidateFits : Type 0
TameCandidateFits = (g : Flow) (m : Mode) → IsGraph g → IsTameFor g m → Each Fits (candidate_operations g m)

-- without loops the candidate of every mode is the need, and it is tame for a mode where the graph is tame
pub record IsTheNeedAlone (g : Flow) (m : Mode) : Type 0 where
  pub candidate : (heads : List (List Linear)) → candidate g m ≡ need g heads
  pub tame : IsTameFor g m ↔ IsTame g

abbrev pub CandidatesAreNeeds : Type 0
CandidatesAreNeeds = (g : Flow) (m : Mode) → NoHeads g.points → IsTheNeedAlone g m
