-- A value for each point of a graph.
use Rattle.std.specs.Prelude.{ℕ, List, IsSomeAnd, slice_get}
use Rattle.pc_rows.specs.Linear.{State}
use Rattle.pc_flow.specs.Arc.{Arc}
use Rattle.pc_flow.specs.Carry.{HasVariable}
use Rattle.pc_flow.specs.Flow.{Flow}
use Rattle.pc_flow.specs.Lists.{In}
use Rattle.pc_flow.specs.Walk.{Pass, Keeps}

-- the state is in the value at the point
abbrev pub HasAt : {V : Type 0} → (V → State → Type 0) → List V → ℕ → State → Type 0
HasAt has values p s = IsSomeAnd (slice_get values p) (λ v. has v s)

-- no edge leads from a state of the value at its source out of the value at its target
abbrev pub IsConsistent : {V : Type 0} → (V → State → Type 0) → Flow → List V → Type 0
IsConsistent has g values =
    (e : Arc) → In e g.edges → (s t : State) → HasVariable e.what s → HasAt has values e.from s → Pass e.what s t → HasAt has values e.to t

-- a state of the value at the source of an edge keeps what the edge asserts, and the edge does not lead from it out of the value at its target
abbrev pub IsBackConsistent : {V : Type 0} → (V → State → Type 0) → Flow → List V → Type 0
IsBackConsistent has g values =
    (e : Arc) → In e g.edges → (s : State) → HasVariable e.what s → HasAt has values e.from s →
    Keeps e.what s × ((t : State) → Pass e.what s t → HasAt has values e.to t)
