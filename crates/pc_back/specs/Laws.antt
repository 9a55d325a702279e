-- What needs promise on graphs without loops.
use Rattle.std.specs.Prelude.{◌≡◌, ℕ, ◌<◌, List, map, length, Some, slice_get}
use Rattle.pc_rows.specs.Linear.{Linear, State, MeetsAll, zero_from}
use Rattle.pc_flow.specs.Annotation.{rows_at}
use Rattle.pc_flow.specs.Flow.{Flow}
use Rattle.pc_flow.specs.Shape.{NoHeads, IsGraph, ChecksAlone}
use Rattle.pc_domain.specs.Fold.{IsBackFold}
use Rattle.pc_domain.specs.View.{View}
use Rattle.pc_lower.specs.Annotation.{no_rows}
use Rattle.pc_lower.specs.Need.{need}
use Rattle.pc_lower.specs.Tame.{IsTame}
use Rattle.pc_back.specs.Needs.{Rowed, HasNeed}
use Rattle.pc_back.specs.Views.{view_of, view_of_rows, need_says}

-- the rows that a point needs
abbrev pub needed : Flow → ℕ → List Linear
needed g p = rows_at (need g (no_rows g.points)) p

-- the views are those of the rows that the points need
pub record AreNeeds (g : Flow) (views : List View) : Type 0 where
  pub whole : views ≡ map view_of_rows (need g (no_rows g.points))
  pub each : (p : ℕ) → p < length g.points → slice_get views p ≡ Some (view_of_rows (needed g p))
  -- a state that meets the rows that a point needs is in the value at the point
  pub states : (p : ℕ) (value : Rowed) (s : State) → slice_get views p ≡ Some (view_of value) → MeetsAll s (needed g p) → HasNeed value s
  -- and if its variables from number `params` on are 0 it meets what is said of the rows of the value for so many parameters
  pub rows : (p : ℕ) (view : View) (params : ℕ) (rows : List Linear) (s : State) → slice_get views p ≡ Some view → need_says.rows view params rows →
      zero_from params s ≡ s → MeetsAll s (needed g p) → MeetsAll s rows

-- without loops and with tame numbers the fold of views over the edges in order keeps every row that is needed, and no other
abbrev pub NeedIsKept : Type 0
NeedIsKept = (g : Flow) (views : List View) → IsGraph g → NoHeads g.points → ChecksAlone g → IsTame g → IsBackFold need_says g views → AreNeeds g views
