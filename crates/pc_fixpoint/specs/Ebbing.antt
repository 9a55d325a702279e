-- What is asked at a point: all that the edges bring back that leave it.
use Rattle.std.specs.Prelude.{ℕ, List}
use Rattle.pc_rows.specs.Linear.{Linear, State, MeetsAll}
use Rattle.pc_flow.specs.declared.what.What.{What}
use Rattle.pc_flow.specs.Carry.{HasVariable}
use Rattle.pc_flow.specs.Flow.{Flow}
use Rattle.pc_flow.specs.Incidence.{leaving}
use Rattle.pc_flow.specs.Walk.{Pass, Keeps, IsEntry, GraphSafe}
use Rattle.pc_domain.specs.declared.backward.Backward.{Ghosts}
use Rattle.pc_domain.specs.Fold.{Folds}

-- what the calls of a domain promise, of states and of views together

abbrev pub All : {V : Type 0} → Ghosts V → ℕ → V → Type 0
All d n v = ((s : State) → d.has v s) × d.says.everything n (d.view v)

abbrev pub Before : {V : Type 0} → Ghosts V → V → What → V → Type 0
Before d u e v = ((s : State) → HasVariable e s → d.has v s → Keeps e s × ((t : State) → Pass e s t → d.has u t)) × d.says.before (d.view u) e (d.view v)

abbrev pub Both : {V : Type 0} → Ghosts V → V → V → V → Type 0
Both d u v w = ((s : State) → d.has w s → d.has u s × d.has v s) × d.says.both (d.view u) (d.view v) (d.view w)

-- the value is the fold of the edges that leave the point, beginning from everything
abbrev pub Asked : {V : Type 0} → Ghosts V → Flow → List V → ℕ → V → Type 0
Asked d g values p w = (v : _) × All d g.variables v × Folds (Before d) (Both d) (λ e. e.to) values (leaving p g.edges) v w

-- an entry state that meets the rows is safe
abbrev pub AreSafe : Flow → List Linear → Type 0
AreSafe g rows = (s : State) → IsEntry g s → MeetsAll s rows → GraphSafe g s
