-- What flows into a point: the join of what the edges bring that enter it.
use Rattle.std.specs.Prelude.{◌≡◌, ℕ, ◌<◌, ◌⊎◌, List, Bool, true, false, Some, IsSomeAnd, slice_get, length, map}
use Rattle.pc_rows.specs.Linear.{State}
use Rattle.pc_flow.specs.declared.what.What.{What}
use Rattle.pc_flow.specs.Carry.{HasVariable}
use Rattle.pc_flow.specs.Flow.{Flow}
use Rattle.pc_flow.specs.Incidence.{entering}
use Rattle.pc_flow.specs.Walk.{Pass}
use Rattle.pc_domain.specs.declared.forward.Forward.{Ghosts}
use Rattle.pc_domain.specs.Fold.{Folds}

-- which points are heads
abbrev pub heads : Flow → List Bool
heads g = map (λ point. point.head) g.points

-- the point is a head
abbrev pub IsHeadAt : Flow → ℕ → Type 0
IsHeadAt g p = slice_get (heads g) p ≡ Some true

-- what the calls of a domain promise, of states and of views together

abbrev pub Everything : {V : Type 0} → Ghosts V → ℕ → V → Type 0
Everything d n v = ((s : State) → d.has v s) × d.says.everything n (d.view v)

abbrev pub Nothing : {V : Type 0} → Ghosts V → ℕ → V → Type 0
Nothing d n v = ((s : State) → d.has v s → ⊥) × d.says.nothing n (d.view v)

abbrev pub After : {V : Type 0} → Ghosts V → V → What → V → Type 0
After d u e v = ((s t : State) → HasVariable e s → d.has u s → Pass e s t → d.has v t) × d.says.after (d.view u) e (d.view v)

abbrev pub Join : {V : Type 0} → Ghosts V → V → V → V → Type 0
Join d u v w = ((s : State) → d.has u s ⊎ d.has v s → d.has w s) × d.says.join (d.view u) (d.view v) (d.view w)

-- the value is the fold of the edges that enter the point, beginning from nothing
abbrev pub Gathered : {V : Type 0} → Ghosts V → Flow → List V → ℕ → V → Type 0
Gathered d g values p w = (v : _) × Nothing d g.variables v × Folds (After d) (Join d) (λ e. e.from) values (entering p g.edges) v w

-- the values of the first n points; those of points below k that are no heads are gathered from the values
pub record Filled {V : Type 0} (d : Ghosts V) (g : Flow) (n k : ℕ) (values : List V) : Type 0 where
  pub long : length values ≡ n
  pub entry : IsSomeAnd (slice_get values 0) (Everything d g.variables)
  pub points : (p : ℕ) → 0 < p → p < k → slice_get (heads g) p ≡ Some false → IsSomeAnd (slice_get values p) (Gathered d g values p)
