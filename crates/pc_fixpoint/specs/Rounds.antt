-- One round at the heads.
use Rattle.std.specs.Prelude.{◌≡◌, ℕ, ◌+◌, ◌<◌, ◌≤◌, List, [], ◌∷◌, Bool, true, false, Option, Some, None, IsSomeAnd, slice_get, length}
use Rattle.pc_flow.specs.Flow.{Flow}
use Rattle.pc_flow.specs.Shape.{NoHeads}
use Rattle.pc_domain.specs.declared.forward.Forward.{Ghosts}
use Rattle.pc_fixpoint.specs.Flowing.{heads, IsHeadAt}
use Rattle.pc_fixpoint.specs.Marks.{IsMarked, IsSettledAt}

-- the parts of the values at the heads, together
abbrev pub weight : {V : Type 0} → (V → ℕ) → List Bool → List V → ℕ
weight parts [] values = 0
weight parts (h ∷ marks) [] = 0
weight parts (true ∷ marks) (v ∷ values) = parts v + weight parts marks values
weight parts (false ∷ marks) (v ∷ values) = weight parts marks values

-- the heads have what flows into them
abbrev pub Settled : {V : Type 0} → Ghosts V → Flow → List V → Type 0
Settled d g values = (p : ℕ) → IsHeadAt g p → IsSettledAt d g values p

-- what a round finds for a point: a value for a head, from the top round on one of fewer parts, or nothing, and a head is settled
abbrev pub WidensTo : {V : Type 0} → Ghosts V → Flow → ℕ → List V → ℕ → Option V → Type 0
WidensTo d g round values p (Some v) = IsHeadAt g p × (d.TOP_ROUND ≤ round → IsSomeAnd (slice_get values p) (λ u. d.parts v < d.parts u))
WidensTo d g round values p None = IsHeadAt g p → IsSettledAt d g values p

-- what it finds for the points below k
pub record AreWidened {V : Type 0} (d : Ghosts V) (g : Flow) (round : ℕ) (values : List V) (k : ℕ) (wider : List (Option V)) : Type 0 where
  pub long : length wider ≡ k
  pub each : (p : ℕ) → p < k → IsSomeAnd (slice_get wider p) (WidensTo d g round values p)

-- the points from k on were gone through: the heads that changed are marked, all else is as it was, and other heads are settled
pub record Turned {V : Type 0} (d : Ghosts V) (g : Flow) (round k : ℕ) (old : List V) (changed : Bool) (new : List V) (moved : List Bool) : Type 0 where
  pub long : length new ≡ length old
  pub marks : length moved ≡ length g.points
  pub changes : (p : ℕ) → IsMarked moved p → (k ≤ p) × IsHeadAt g p
  pub same : (p : ℕ) → (IsMarked moved p → ⊥) → slice_get new p ≡ slice_get old p
  pub settled : (p : ℕ) → k ≤ p → IsHeadAt g p → (IsMarked moved p → ⊥) → IsSettledAt d g old p
  pub none : changed ≡ false → (new ≡ old) × ((p : ℕ) → IsMarked moved p → ⊥)
  pub fewer : changed ≡ true → d.TOP_ROUND ≤ round → weight d.parts (heads g) new < weight d.parts (heads g) old
  pub loops : changed ≡ true → NoHeads g.points → ⊥
