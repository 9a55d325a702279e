-- Marks of the points whose values are new: what is behind no mark need not be asked.
use Rattle.std.specs.Prelude.{◌≡◌, ℕ, ◌<◌, List, Bool, true, false, Some, IsSomeAnd, slice_get, length}
use Rattle.std.specs.List.{AllByRecursion as Each}
use Rattle.pc_rows.specs.Linear.{State}
use Rattle.pc_flow.specs.Flow.{Flow}
use Rattle.pc_flow.specs.Incidence.{entering}
use Rattle.pc_domain.specs.declared.forward.Forward.{Ghosts}
use Rattle.pc_domain.specs.Values.{HasAt}
use Rattle.pc_fixpoint.specs.Flowing.{heads, IsHeadAt, Gathered, Filled}

-- the value at the point is a new one
abbrev pub IsMarked : List Bool → ℕ → Type 0
IsMarked moved p = slice_get moved p ≡ Some true

-- no edge that enters the point comes from a marked one
abbrev pub AreStill : Flow → List Bool → ℕ → Type 0
AreStill g moved p = Each (λ e. IsMarked moved e.from → ⊥) (entering p g.edges)

-- the value at the point has what flows into it
abbrev pub IsSettledAt : {V : Type 0} → Ghosts V → Flow → List V → ℕ → Type 0
IsSettledAt d g values p = (v : _) × Gathered d g values p v × ((s : State) → d.has v s → HasAt d.has values p s)

-- The points below k are filled. At all others the marks tell what is left to do: where they are still, a point that is no
-- head is gathered from the values, and a head is settled, if it is not marked itself.
pub record MarksTell {V : Type 0} (d : Ghosts V) (g : Flow) (k : ℕ) (values : List V) (moved : List Bool) : Type 0 where
  pub filled : Filled d g (length g.points) k values
  pub marks : length moved ≡ length g.points
  pub others : (p : ℕ) → 0 < p → p < length g.points → slice_get (heads g) p ≡ Some false → AreStill g moved p → IsSomeAnd (slice_get values p) (Gathered d g values p)
  pub settled : (p : ℕ) → IsHeadAt g p → (IsMarked moved p → ⊥) → AreStill g moved p → IsSettledAt d g values p
