-- One round from the greatest point down. A head that is narrowed in the last round or later is spent: it has no state left.
use Rattle.std.specs.Prelude.{◌≡◌, ℕ, suc, ◌<◌, ◌≤◌, ◌⊎◌, List, [], ◌∷◌, Bool, true, false, Some, IsSomeAnd, slice_get, slice_set, length}
use Rattle.pc_rows.specs.Linear.{State}
use Rattle.pc_flow.specs.Flow.{Flow}
use Rattle.pc_flow.specs.Shape.{NoHeads}
use Rattle.pc_domain.specs.declared.backward.Backward.{Ghosts}
use Rattle.pc_domain.specs.Values.{HasAt}
use Rattle.pc_fixpoint.specs.Flowing.{heads, IsHeadAt}
use Rattle.pc_fixpoint.specs.Ebbing.{Asked}

-- no state is in the value at the point
abbrev pub IsEmptyAt : {V : Type 0} → Ghosts V → List V → ℕ → Type 0
IsEmptyAt d values p = (s : State) → HasAt d.has values p s → ⊥

-- how many points are not spent
abbrev pub left : List Bool → ℕ
left [] = 0
left (true ∷ spent) = left spent
left (false ∷ spent) = suc (left spent)

-- what narrowing leaves: below the last round any value, and from it on no state, and the point is spent
abbrev pub Leaves : {V : Type 0} → Ghosts V → ℕ → ℕ → V → List Bool → List Bool → Type 0
Leaves d round p v spent spent' =
    ((round < d.LAST_ROUND) × (spent' ≡ spent)) ⊎ ((d.LAST_ROUND ≤ round) × (spent' ≡ slice_set spent p true) × ((s : State) → d.has v s → ⊥))

-- the value at point p is narrowed by a newer one, or has states of it alone
abbrev pub Narrowed : {V : Type 0} → Ghosts V → ℕ → List V → List Bool → ℕ → V → Bool → List V → List Bool → Type 0
Narrowed d round old spent p newer false new spent' = (new ≡ old) × (spent' ≡ spent) × ((s : State) → HasAt d.has old p s → d.has newer s)
Narrowed d round old spent p newer true new spent' = (v : _) × (new ≡ slice_set old p v) × Leaves d round p v spent spent'

-- a head is spent, or has states alone that are asked
abbrev pub IsKeptAt : {V : Type 0} → Ghosts V → Flow → List V → List Bool → ℕ → Type 0
IsKeptAt d g values spent p =
    (slice_get spent p ≡ Some true) ⊎ ((v : _) × Asked d g values p v × ((s : State) → HasAt d.has values p s → d.has v s))

-- a point that is no head gets what is asked; a head stays, or is narrowed
abbrev pub Stepped : {V : Type 0} → Ghosts V → Flow → ℕ → List V → List Bool → ℕ → Bool → List V → List Bool → Type 0
Stepped d g round old spent p false new spent' =
    (spent' ≡ spent) ×
    (((slice_get (heads g) p ≡ Some false) × ((v : _) × (new ≡ slice_set old p v) × Asked d g old p v)) ⊎ (IsHeadAt g p × (new ≡ old) × IsKeptAt d g old spent p))
Stepped d g round old spent p true new spent' =
    IsHeadAt g p × (slice_get spent p ≡ Some false) × ((v : _) × (new ≡ slice_set old p v) × Leaves d round p v spent spent')

-- a value and a mark for each point; what is marked as spent are heads without states
pub record AreMarked {V : Type 0} (d : Ghosts V) (g : Flow) (values : List V) (spent : List Bool) : Type 0 where
  pub long : length values ≡ length g.points
  pub marks : length spent ≡ length g.points
  pub empty : (p : ℕ) → slice_get spent p ≡ Some true → IsHeadAt g p × IsEmptyAt d values p

-- a point after a round in which no head changed: it is what is asked, or a head that has states alone that are asked
pub record IsAskedAt {V : Type 0} (d : Ghosts V) (g : Flow) (values : List V) (p : ℕ) : Type 0 where
  pub other : slice_get (heads g) p ≡ Some false → IsSomeAnd (slice_get values p) (Asked d g values p)
  pub head : IsHeadAt g p → IsEmptyAt d values p ⊎ ((v : V) × Asked d g values p v × ((s : State) → HasAt d.has values p s → d.has v s))

-- the points from k on were gone through, from the greatest down
pub record Swept {V : Type 0} (d : Ghosts V) (g : Flow) (round k : ℕ) (before : List Bool) (changed : Bool) (values : List V) (spent : List Bool) : Type 0 where
  pub kept : AreMarked d g values spent
  pub done : changed ≡ false → (p : ℕ) → k ≤ p → p < length g.points → IsAskedAt d g values p
  pub fewer : left spent ≤ left before
  pub falls : changed ≡ true → d.LAST_ROUND ≤ round → left spent < left before
  pub loops : changed ≡ true → NoHeads g.points → ⊥
