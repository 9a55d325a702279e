-- The edge from the entry, and the ends of edges.
use Rattle.std.proofs.Common.{◌≡◌, ◌≢◌, ℕ, ◌<◌, List, [], ◌∷◌, drop, length, Some, slice_get}
use Rattle.std.specs.List.{AllByRecursion as Each}
use Rattle.pc_flow.specs.Arc.{Enter, Arc, arc}
use Rattle.pc_flow.specs.Flow.{Flow}
use Rattle.pc_flow.specs.Shape.{IsGraph, LeadsUp}
use Rattle.pc_flow.proofs.Lists.{each_got, each_more}

first_alone : (a : Arc) (edges : List Arc) → slice_get edges 0 ≡ Some a → Each (λ e. e.from ≢ 0) (drop 1 edges) → Each (λ e. e.from ≡ 0 → e ≡ a) edges
first_alone a [] first others = tt
first_alone a (e ∷ edges) first others = (λ is. cc, each_more (λ e. e.from ≢ 0) (λ e. e.from ≡ 0 → e ≡ a) (λ e other is. absurd (other is)) edges others)

-- an edge that leaves the entry is the one to the start
pub to_start : (g : Flow) → IsGraph g → Each (λ e. e.from ≡ 0 → e ≡ arc 0 1 (Enter g.params)) g.edges
to_start g kept = first_alone (arc 0 1 (Enter g.params)) g.edges kept.enters kept.alone

-- each edge joins two of the points
pub edge_within : (g : Flow) (i : ℕ) (e : Arc) → IsGraph g → slice_get g.edges i ≡ Some e → (e.from < length g.points) × (e.to < length g.points)
edge_within g i e kept got =
    let leads = each_got (LeadsUp g.points g.variables) g.edges i e kept.leads got in
    (leads.leaves, leads.reaches)
