-- Folds over edges in order, and the fold of views over a graph without loops.
use Rattle.std.specs.Prelude.{◌≡◌, ℕ, ◌<◌, List, [], ◌∷◌, Option, Some, None, IsSomeAnd, length, slice_get}
use Rattle.pc_flow.specs.declared.what.What.{What}
use Rattle.pc_flow.specs.Arc.{Arc}
use Rattle.pc_flow.specs.Flow.{Flow}
use Rattle.pc_flow.specs.Incidence.{entering, leaving}
use Rattle.pc_domain.specs.View.{View, Relations, BackRelations}

-- what an edge from a point makes of the value so far: what it leads to is joined, and nothing where the point has no value yet
abbrev pub Brings : {V : Type 0} → (V → What → V → Type 0) → (V → V → V → Type 0) → Option V → What → V → V → Type 0
Brings leads joins (Some u) e v w = (x : _) × leads u e x × joins v x w
Brings leads joins None e v w = w ≡ v

-- the fold of edges, in order, from v to w, where `end` is the end of an edge whose value it brings
abbrev pub Folds : {V : Type 0} → (V → What → V → Type 0) → (V → V → V → Type 0) → (Arc → ℕ) → List V → List Arc → V → V → Type 0
Folds leads joins end values [] v w = w ≡ v
Folds leads joins end values (e ∷ edges) v w =
    (u : _) × Brings leads joins (slice_get values (end e)) e.what v u × Folds leads joins end values edges u w

-- the fold of the edges that enter point p, beginning from nothing
abbrev pub FlowsTo : Relations → Flow → List View → ℕ → View → Type 0
FlowsTo r g views p w = (v : View) × r.nothing g.variables v × Folds r.after r.join (λ e. e.from) views (entering p g.edges) v w

-- views for each point: everything at the entry, and at any other point the fold of the edges that enter it
pub record IsFold (r : Relations) (g : Flow) (views : List View) : Type 0 where
  pub long : length views ≡ length g.points
  pub entry : IsSomeAnd (slice_get views 0) (r.everything g.variables)
  pub points : (p : ℕ) → 0 < p → p < length g.points → IsSomeAnd (slice_get views p) (FlowsTo r g views p)

-- the fold of the edges that leave point p, beginning from everything
abbrev pub EbbsTo : BackRelations → Flow → List View → ℕ → View → Type 0
EbbsTo r g views p w = (v : View) × r.everything g.variables v × Folds r.before r.both (λ e. e.to) views (leaving p g.edges) v w

-- views for each point, each the fold of the edges that leave it
pub record IsBackFold (r : BackRelations) (g : Flow) (views : List View) : Type 0 where
  pub long : length views ≡ length g.points
  pub points : (p : ℕ) → p < length g.points → IsSomeAnd (slice_get views p) (EbbsTo r g views p)
