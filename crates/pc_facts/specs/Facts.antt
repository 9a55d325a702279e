-- What the rows of the points are.
use Rattle.std.specs.Prelude.{◌≡◌, ℕ, ◌<◌, List, Some, IsSomeAnd, length, slice_get}
use Rattle.pc_text.specs.Bytes.{Bytes}
use Rattle.pc_rows.specs.Linear.{Linear, State, MeetsAll}
use Rattle.pc_flow.specs.Flow.{Flow}
use Rattle.pc_flow.specs.Walk.{Reach}
use Rattle.pc_flow.specs.Shape.{NoHeads}
use Rattle.pc_domain.specs.declared.forward.Forward.{Ghosts}
use Rattle.pc_domain.specs.Fold.{IsFold}
use Rattle.pc_domain.specs.View.{View, Relations}
use Rattle.pc_facts.specs.Lines.{lines_from}

-- what the rows of a value say: its states meet them, and they are what the domain says of its view
abbrev pub RowsAre : {V : Type 0} → Ghosts V → V → List Linear → Type 0
RowsAre d v rows = ((s : State) → d.has v s → MeetsAll s rows) × d.says.rows (d.view v) rows

-- the rows of the first k values
pub record AreTold {V : Type 0} (d : Ghosts V) (values : List V) (k : ℕ) (rows : List (List Linear)) : Type 0 where
  pub long : length rows ≡ k
  pub each : (p : ℕ) → p < k → (v : V) × (slice_get values p ≡ Some v) × ((told : List Linear) × (slice_get rows p ≡ Some told) × RowsAre d v told)

-- the lines of the first k points, from the rows of their values
pub record AreLines {V : Type 0} (d : Ghosts V) (g : Flow) (names : List Bytes) (values : List V) (k : ℕ) (text : Bytes) : Type 0 where
  pub rows : List (List Linear)
  pub told : AreTold d values k rows
  pub printed : text ≡ lines_from names g.points 0 rows

-- the rows are what the domain says of the views
pub record AreSaid (r : Relations) (views : List View) (rows : List (List Linear)) : Type 0 where
  pub long : length rows ≡ length views
  pub each : (p : ℕ) → p < length views → (v : View) × (slice_get views p ≡ Some v) × ((told : List Linear) × (slice_get rows p ≡ Some told) × r.rows v told)

-- the rows are what the domain says of a fold of the graph
pub record OfFold (r : Relations) (g : Flow) (rows : List (List Linear)) : Type 0 where
  pub views : List View
  pub fold : IsFold r g views
  pub said : AreSaid r views rows

-- a text of lines, one for each point: the rows of each are met by every state that some walk brings there, and without loops they are those of
-- the fold of views
pub record IsFacts {V : Type 0} (d : Ghosts V) (g : Flow) (names : List Bytes) (text : Bytes) : Type 0 where
  pub rows : List (List Linear)
  pub long : length rows ≡ length g.points
  pub printed : text ≡ lines_from names g.points 0 rows
  pub met : (p : ℕ) (s : State) → Reach g p s → IsSomeAnd (slice_get rows p) (MeetsAll s)
  pub folded : NoHeads g.points → OfFold d.says g rows
