-- The operations by which annotations are computed, in order, and the first that cannot be carried out.
use Rattle.std.specs.Prelude.{◌≡◌, ◌≤◌, ℕ, zero, suc, if◌then◌else◌, List, [], ◌∷◌, ◌++◌, ◌⊎◌, map, length, Result, Ok, Err}
use Rattle.std.specs.List.{AllByRecursion as Each}
use Rattle.pc_rows.specs.Linear.{Linear, IsInRange, difference_of, negation}
use Rattle.pc_rows.specs.Joins.{joined}
use Rattle.pc_rows.specs.declared.rows.TheConstants.{ROWS}
use Rattle.pc_flow.specs.declared.what.What.{What}
use Rattle.pc_flow.specs.Arc.{Arc}
use Rattle.pc_flow.specs.Carry.{BackFits}
use Rattle.pc_flow.specs.Exact.{PointRows}
use Rattle.pc_flow.specs.Flow.{Flow}
use Rattle.pc_lower.specs.declared.fault.CandidateFault.{CandidateFault}
use Rattle.pc_lower.specs.declared.fault.CandidateFault.TheVariants.{Past, Full, NoMemory}
use Rattle.pc_flow.specs.Annotation.{rows_at}
use Rattle.pc_lower.specs.Annotation.{is_head}
use Rattle.pc_flow.specs.Incidence.{leaving}
use Rattle.pc_lower.specs.Need.{demanded, need}

-- a row carried back over an edge, two lists of rows joined, a row minus another, or the negation of a row
pub data Operation : Type 0 where
  Carries : What → Linear → Operation
  Joins : List Linear → List Linear → Operation
  Subtracts : Linear → Linear → Operation
  Negates : Linear → Operation

-- it can be carried out: its numbers are in range, or its rows are not too many
abbrev pub Fits : Operation → Type 0
Fits (Carries w r) = BackFits w r
Fits (Joins a b) = length (joined a b) ≤ ROWS
Fits (Subtracts a b) = IsInRange (difference_of a b)
Fits (Negates a) = IsInRange (negation a)

-- what is told where it cannot
abbrev pub fault_of : Operation → CandidateFault
fault_of (Carries w r) = Past
fault_of (Joins a b) = Full
fault_of (Subtracts a b) = Past
fault_of (Negates a) = Past

-- the fault is that of the first operation that cannot be carried out
abbrev pub IsFirstFault : CandidateFault → List Operation → Type 0
IsFirstFault fault [] = ⊥
IsFirstFault fault (o ∷ os) = ((Fits o → ⊥) × (fault ≡ fault_of o)) ⊎ (Fits o × IsFirstFault fault os)

-- the answer of a computation by these operations; want of memory is free
abbrev pub Answers : {A : Type 0} → List Operation → A → Result A CandidateFault → Type 0
Answers os value (Ok x) = Each Fits os × (x ≡ value)
Answers os value (Err Past) = IsFirstFault Past os
Answers os value (Err Full) = IsFirstFault Full os
Answers os value (Err NoMemory) = Unit {0}

-- steps one after the other, over a list
abbrev pub after_all : {S X : Type 0} → (S → X → S) → S → List X → S
after_all step s [] = s
after_all step s (x ∷ xs) = after_all step (step s x) xs

-- the operations of these steps, where `os` are those of one
abbrev pub operations_of_all : {S X : Type 0} → (S → X → S) → (S → X → List Operation) → S → List X → List Operation
operations_of_all step os s [] = []
operations_of_all step os s (x ∷ xs) = os s x ++ operations_of_all step os (step s x) xs

-- each of the rows at the edge's target is carried back
abbrev pub carries : What → List Linear → List Operation
carries w rows = map (Carries w) rows

-- over an edge from a point that has rows so far all rows at the target are carried back, and then the join begins
abbrev pub edge_operations : What → List Linear → List Linear → List Operation
edge_operations w rows target = carries w target ++ Joins rows (demanded w target) ∷ []

-- over edges one after the other
abbrev pub edges_operations : PointRows → List Linear → List Arc → List Operation
edges_operations a rows [] = []
edges_operations a rows (e ∷ edges) = edge_operations e.what rows (a e.to) ++ edges_operations a (joined rows (demanded e.what (a e.to))) edges

-- at a point: a head has its rows
abbrev pub point_operations : Flow → PointRows → ℕ → List Operation
point_operations g a p = if is_head g.points p then [] else edges_operations a [] (leaving p g.edges)

-- at the points below number n, from the greatest down
abbrev pub operations_below : Flow → PointRows → ℕ → List Operation
operations_below g a zero = []
operations_below g a (suc n) = point_operations g a n ++ operations_below g a n

-- the operations of the need
abbrev pub operations : Flow → List (List Linear) → List Operation
operations g heads = operations_below g (rows_at (need g heads)) (length g.points)
