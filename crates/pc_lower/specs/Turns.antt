-- Candidates in words: what holds of the rows of the heads before and after a turn, a round, and all rounds. The functions of `Candidate` compute the one annotation of which this holds.
use Rattle.std.specs.Prelude.{◌≡◌, ◌≢◌, ◌⊎◌, ℕ, zero, suc, true, false, List, [], ◌∷◌, ◌++◌, length, drop}
use Rattle.std.specs.List.{AllByRecursion as Each}
use Rattle.pc_rows.specs.Linear.{Linear, difference_of, negation}
use Rattle.pc_rows.specs.Joins.{IsCovered, joined}
use Rattle.pc_flow.specs.Annotation.{rows_at}
use Rattle.pc_flow.specs.Arc.{Arc}
use Rattle.pc_flow.specs.Carry.{owes, test_rows}
use Rattle.pc_flow.specs.Exact.{PointRows}
use Rattle.pc_flow.specs.Flow.{Flow}
use Rattle.pc_flow.specs.Incidence.{leaving}
use Rattle.pc_flow.specs.Shape.{IsGraph}
use Rattle.pc_lower.specs.declared.mode.Mode.{Mode}
use Rattle.pc_lower.specs.declared.mode.Mode.TheVariants.{Hint, Plain, Tilt1, Tilt2, Escape}
use Rattle.pc_lower.specs.declared.rounds.TheConstants.{ROUNDS}
use Rattle.pc_lower.specs.Annotation.{is_head, no_rows}
use Rattle.pc_lower.specs.Candidate.{alone, hinted, candidate}
use Rattle.pc_lower.specs.Need.{IsNeed}
use Rattle.pc_lower.specs.Unchecked.{unchecked}

-- with assertions left out and no rows at other heads, the row and the edge's test cover each row at the edge's target
abbrev pub IsSteady : Flow → Arc → Linear → Type 0
IsSteady g e r = (a : List (List Linear)) → IsNeed (unchecked g) (alone g e.from r) a → Each (λ x. IsCovered x (r ∷ test_rows e.what)) (rows_at a e.to)

-- the row where it is steady or there are no rows of the test; else it minus the first of these
abbrev pub IsTilted : Flow → Arc → Linear → List Linear → Linear → Type 0
IsTilted g e r [] new = new ≡ r
IsTilted g e r (t ∷ more) new = (IsSteady g e r × (new ≡ r)) ⊎ ((IsSteady g e r → ⊥) × (new ≡ difference_of r t))

abbrev pub IsEscaped : Linear → List Linear → Linear → Type 0
IsEscaped r [] new = new ≡ r
IsEscaped r (t ∷ more) new = new ≡ negation t

-- the lift of a row over an edge into a body
abbrev pub IsLift : Flow → Mode → Arc → Linear → Linear → Type 0
IsLift g Hint e r new = new ≡ r
IsLift g Plain e r new = new ≡ r
IsLift g Tilt1 e r new = IsTilted g e r (test_rows e.what) new
IsLift g Tilt2 e r new = IsTilted g e r (drop 1 (test_rows e.what)) new
IsLift g Escape e r new = IsEscaped r (test_rows e.what) new

-- and over any other edge the row
abbrev pub IsLifted : Flow → Mode → Arc → Linear → Linear → Type 0
IsLifted g m e r new = ((e.body ≡ true) × IsLift g m e r new) ⊎ ((e.body ≡ false) × (new ≡ r))

-- a row that is owed is passed over where it is covered by the rows at the beginning of the turn and the edge's test; else its lift is joined
abbrev pub Takes : Flow → Mode → Arc → List Linear → List Linear → Linear → List Linear → Type 0
Takes g m e begun rows r after =
    (IsCovered r (begun ++ test_rows e.what) × (after ≡ rows)) ⊎
    ((IsCovered r (begun ++ test_rows e.what) → ⊥) × ((lift : Linear) × IsLifted g m e r lift × (after ≡ joined rows (lift ∷ []))))

-- rows that are owed over an edge, in order
abbrev pub TakesAll : Flow → Mode → Arc → List Linear → List Linear → List Linear → List Linear → Type 0
TakesAll g m e begun rows [] after = after ≡ rows
TakesAll g m e begun rows (r ∷ owed) after = (next : List Linear) × Takes g m e begun rows r next × TakesAll g m e begun next owed after

-- edges, in order
abbrev pub TakesEdges : Flow → Mode → PointRows → List Linear → List Linear → List Arc → List Linear → Type 0
TakesEdges g m a begun rows [] after = after ≡ rows
TakesEdges g m a begun rows (e ∷ edges) after = (next : List Linear) × TakesAll g m e begun rows (owes e.what (a e.to)) next × TakesEdges g m a begun next edges after

-- a turn of head h: it gets what its edges owe for the need of the rows before, and no other point changes
pub record IsTurn (g : Flow) (m : Mode) (h : ℕ) (before after : List (List Linear)) : Type 0 where
  pub long : length after ≡ length before
  pub others : (p : ℕ) → p ≢ h → rows_at after p ≡ rows_at before p
  pub here : (a : List (List Linear)) → IsNeed g before a → TakesEdges g m (rows_at a) (rows_at before h) (rows_at before h) (leaving h g.edges) (rows_at after h)

-- the heads below number n have their turns, from the greatest down
abbrev pub HaveTurns : Flow → Mode → ℕ → List (List Linear) → List (List Linear) → Type 0
HaveTurns g m zero before after = after ≡ before
HaveTurns g m (suc n) before after =
    (next : List (List Linear)) × (((is_head g.points n ≡ true) × IsTurn g m n before next) ⊎ ((is_head g.points n ≡ false) × (next ≡ before))) ×
    HaveTurns g m n next after

-- so many rounds, in each of which every head has a turn
abbrev pub AreRounds : ℕ → Flow → Mode → List (List Linear) → List (List Linear) → Type 0
AreRounds zero g m before after = after ≡ before
AreRounds (suc n) g m before after = (next : List (List Linear)) × HaveTurns g m (length g.points) before next × AreRounds n g m next after

-- the rows of the heads: those that loops try, or what the rounds make of no rows
abbrev pub AreHeads : Flow → Mode → List (List Linear) → Type 0
AreHeads g Hint heads = heads ≡ hinted g
AreHeads g Plain heads = AreRounds ROUNDS g Plain (no_rows g.points) heads
AreHeads g Tilt1 heads = AreRounds ROUNDS g Tilt1 (no_rows g.points) heads
AreHeads g Tilt2 heads = AreRounds ROUNDS g Tilt2 (no_rows g.points) heads
AreHeads g Escape heads = AreRounds ROUNDS g Escape (no_rows g.points) heads

-- an annotation is the candidate where it is the need of these
abbrev pub IsCandidate : Flow → Mode → List (List Linear) → Type 0
IsCandidate g m a = (heads : List (List Linear)) × AreHeads g m heads × IsNeed g heads a

-- there is one
pub record IsTheCandidate (g : Flow) (m : Mode) : Type 0 where
  pub is : IsCandidate g m (candidate g m)
  pub only : (a : List (List Linear)) → IsCandidate g m a → a ≡ candidate g m

abbrev pub CandidateIsMeant : Type 0
CandidateIsMeant = (g : Flow) (m : Mode) → IsGraph g → IsTheCandidate g m
