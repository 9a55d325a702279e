-- A program and its graph take the same steps.
use Rattle.std.specs.Prelude.{◌≡◌, ℕ, ◌≤◌, ℤ, List, ◌⊎◌, ◌↔◌, length}
use Rattle.std.specs.List.{AllByRecursion as Each}
use Rattle.pc_text.specs.declared.place.Place.{Place}
use Rattle.pc_program.specs.Machine.{Going, Violated, step, run, run_of, Safe}
use Rattle.pc_rows.specs.Linear.{State, zero_from}
use Rattle.pc_program.specs.declared.program.Program.{Program}
use Rattle.pc_program.specs.declared.tree.Stmt.{Stmt}
use Rattle.pc_flow.specs.Arc.{Arc}
use Rattle.pc_flow.specs.Flow.{Flow}
use Rattle.pc_flow.specs.Lists.{In}
use Rattle.pc_graph.specs.Lowering.{graph, made, no_steps}
use Rattle.pc_graph.specs.Rest.{rest}
use Rattle.pc_flow.specs.Walk.{Pass, Keeps, Walks, Walk, IsEntry, GraphSafe, Breaks, entered}

-- a run that is still going has a walk to a point with the statements still to be run, in the same state
abbrev pub RunsHaveWalks : Program → State → Type 0
RunsHaveWalks p s =
    (cs : List ℤ) (k : List Stmt) (t : State) → run_of p s cs ≡ Going k t →
    (es : List Arc) × (q : ℕ) × Walk (graph p) s es q t × (rest p q ≡ k)

-- a walk has choices, no more than its edges, whose run is where the walk is
abbrev pub WalksHaveRuns : Program → State → Type 0
WalksHaveRuns p s =
    (es : List Arc) (q : ℕ) (t : State) → Walk (graph p) s es q t →
    (cs : List ℤ) × (length cs ≤ length es) × (run_of p s cs ≡ Going (rest p q) t)

-- a walk to an assertion that does not hold has choices whose run is violated
abbrev pub BreaksHaveRuns : Program → State → Type 0
BreaksHaveRuns p s = Breaks (graph p) s → (cs : List ℤ) × (q : Place) × (run_of p s cs ≡ Violated q)

-- an edge that is no step: the same statements are still to be run in the same state
abbrev pub IsNoStep : (ℕ → List Stmt) → Arc → Type 0
IsNoStep rests e = (rests e.from ≡ rests e.to) × ((s t : State) → Pass e.what s t → t ≡ s)

-- an edge that is one step, for some choice
abbrev pub IsStep : (ℕ → List Stmt) → Arc → Type 0
IsStep rests e = (s t : State) → Pass e.what s t → (c : ℤ) × (step (rests e.from) s c ≡ Going (rests e.to) t)

-- an edge from the entry is no step: the state in which a run begins stays as it is
pub record IsEntered (p : Program) (e : Arc) : Type 0 where
  pub rests : rest p e.from ≡ rest p e.to
  pub stays : (s t : State) → IsEntry (graph p) s → Pass e.what (entered (graph p) s) t → t ≡ entered (graph p) s

-- the edges to the end of an `if` and back to a head are no step, as is the first; every other edge is one step
pub record EdgesAreSteps (p : Program) : Type 0 where
  pub first : (e : Arc) → In e (graph p).edges → e.from ≡ 0 → IsEntered p e
  pub joins : Each (IsNoStep (rest p)) (no_steps p)
  pub others : Each (λ e. In e (no_steps p) ⊎ IsStep (rest p) e) (made p).edges

-- from an entry state a program and its graph take the same steps, and are safe together
pub record SameSteps (p : Program) (s : State) : Type 0 where
  pub runs : RunsHaveWalks p s
  pub walks : WalksHaveRuns p s
  pub safe : Safe p s ↔ GraphSafe (graph p) s
  pub broken : BreaksHaveRuns p s
  pub edges : EdgesAreSteps p

abbrev pub StepsCorrespond : Type 0
StepsCorrespond = (p : Program) (s : State) → IsEntry (graph p) s → SameSteps p s

-- no list of choices leads from these statements, in this state, to a violation
abbrev pub SafeFrom : List Stmt → State → Type 0
SafeFrom k s = (cs : List ℤ) (q : Place) → run (Going k s) cs ≡ Violated q → ⊥

-- no walk from the point in the state comes to an assertion that does not hold
abbrev pub WalksAreSafe : Flow → ℕ → State → Type 0
WalksAreSafe g q s = (es : List Arc) (r : ℕ) (t : State) → Walks g.edges q s es r t → (e : Arc) → In e g.edges → e.from ≡ r → Keeps e.what t

-- at the entry the locals are 0
abbrev pub MayStand : Flow → ℕ → State → Type 0
MayStand g q s = q ≡ 0 → zero_from g.params s ≡ s

-- what is still to be run at a point is safe from exactly the states in which no walk from the point comes to an assertion that
-- does not hold
abbrev pub RestsAreSafe : Type 0
RestsAreSafe = (p : Program) (q : ℕ) (s : State) → MayStand (graph p) q s → SafeFrom (rest p q) s ↔ WalksAreSafe (graph p) q s
