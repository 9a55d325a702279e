-- The shape of a graph: how many points and edges it has, where edges lead, and which variables they have.
use Rattle.std.specs.Prelude.{◌≡◌, ◌≢◌, ℕ, ◌+◌, ◌<◌, ◌≤◌, List, [], ◌∷◌, ◌⊎◌, true, false, length, drop, Some, IfSome, slice_get}
use Rattle.std.specs.List.{AllByRecursion as Each}
use Rattle.pc_rows.specs.Linear.{IsOver}
use Rattle.pc_rows.specs.declared.row.TheConstants.{VARIABLES}
use Rattle.pc_language.specs.declared.limits.TheConstants.{EDGES}
use Rattle.pc_flow.specs.declared.point.PointInfo.{PointInfo}
use Rattle.pc_flow.specs.Arc.{What, Enter, Test, Set, Check, Arc, arc}
use Rattle.pc_flow.specs.Flow.{Flow}
use Rattle.pc_flow.specs.Incidence.{leaving}

-- what an edge asks and does has no variable from number `variables` on: not in its rows, nor in its form, nor as what it assigns
abbrev pub WhatIsOver : ℕ → What → Type 0
WhatIsOver variables (Enter params) = params ≤ variables
WhatIsOver variables (Test rows) = Each (IsOver variables) rows
WhatIsOver variables (Set x form lo hi) = (x < variables) × IsOver variables form
WhatIsOver variables (Check rows) = Each (IsOver variables) rows

-- there are no loops
abbrev pub NoHeads : List PointInfo → Type 0
NoHeads points = Each (λ point. point.head ≡ false) points

-- the point is the head of a loop
abbrev pub IsHead : List PointInfo → ℕ → Type 0
IsHead points p = IfSome (slice_get points p) (λ point. point.head ≡ true)

-- an edge joins two of the points, and leads to a greater number or back to a head
pub record LeadsUp (points : List PointInfo) (variables : ℕ) (e : Arc) : Type 0 where
  pub leaves : e.from < length points
  pub reaches : e.to < length points
  pub rises : (e.from < e.to) ⊎ IsHead points e.to
  pub over : WhatIsOver variables e.what

-- what every graph keeps
pub record IsGraph (g : Flow) : Type 0 where
  pub parameters : g.params ≤ g.variables
  pub variables : g.variables ≤ VARIABLES
  -- no more points than edges and one
  pub points : length g.points ≤ length g.edges + 1
  pub edges : length g.edges ≤ EDGES
  -- what loops try is over the variables
  pub tried : Each (λ point. Each (IsOver g.variables) point.tried) g.points
  -- edge 0 leads from the entry to the start, no other edge leaves the entry, and the entry is no head
  pub enters : slice_get g.edges 0 ≡ Some (arc 0 1 (Enter g.params))
  pub alone : Each (λ e. e.from ≢ 0) (drop 1 g.edges)
  pub entry : IfSome (slice_get g.points 0) (λ point. point.head ≡ false)
  pub leads : Each (LeadsUp g.points g.variables) g.edges

-- not both edges lead back to one point
abbrev pub TurnsApart : Arc → Arc → Type 0
TurnsApart e f = e.to ≤ e.from → f.to ≤ f.from → e.to ≢ f.to

-- no two edges lead back to one point
abbrev pub NoSharedHead : List Arc → Type 0
NoSharedHead [] = Unit {0}
NoSharedHead (e ∷ es) = Each (TurnsApart e) es × NoSharedHead es

-- the edge is an assertion
abbrev pub IsCheck : What → Type 0
IsCheck (Check rows) = Unit {0}
IsCheck (Enter params) = ⊥
IsCheck (Test rows) = ⊥
IsCheck (Set x form lo hi) = ⊥

-- no other edge leaves the point that it leaves, if it is an assertion
abbrev pub IsAloneIfCheck : List Arc → Arc → Type 0
IsAloneIfCheck edges e = IsCheck e.what → leaving e.from edges ≡ e ∷ []

-- assertions are the only edges from their points
abbrev pub ChecksAlone : Flow → Type 0
ChecksAlone g = Each (IsAloneIfCheck g.edges) g.edges
