-- What boxes promise beyond the laws of domains.
use Rattle.std.specs.Prelude.{◌≡◌, ◌≢◌, ◌↔◌, ℕ, ◌<◌, ℤ, pos, ◌+ℤ◌, ◌*ℤ◌, ◌≤ℤ◌, List, map, Some, length, slice_get}
use Rattle.pc_flow.specs.Flow.{Flow}
use Rattle.pc_flow.specs.Shape.{NoHeads, IsGraph}
use Rattle.pc_domain.specs.Fold.{IsFold}
use Rattle.pc_domain.specs.View.{View}
use Rattle.pc_box.specs.declared.interval.Interval.{Interval}
use Rattle.pc_box.specs.Intervals.{Holds, cut}
use Rattle.pc_box.specs.Boxes.{rows_of}
use Rattle.pc_box.specs.Views.{view_of, box_says}
use Rattle.pc_box.specs.BoxAt.{boxes_of, box_at}

-- cutting keeps exactly the integers that meet the row
abbrev pub CuttingIsExact : Type 0
CuttingIsExact = (a c : ℤ) (i : Interval) (x : ℤ) → a ≢ pos 0 → Holds (cut a c i) x ↔ (Holds i x × (pos 0 ≤ℤ (a *ℤ x +ℤ c)))

-- without loops the fold of the views of boxes is what the boxes at the points are
pub record IsTheBoxAt (g : Flow) (views : List View) : Type 0 where
  pub whole : views ≡ map view_of (boxes_of g)
  pub each : (p : ℕ) → p < length g.points → slice_get views p ≡ Some (view_of (box_at g p))

abbrev pub FoldIsBoxAt : Type 0
FoldIsBoxAt = (g : Flow) (views : List View) → IsGraph g → NoHeads g.points → IsFold box_says g views → IsTheBoxAt g views

-- and rows that are said of the view of a box are the rows of the box
abbrev pub RowsAreBoxRows : Type 0
RowsAreBoxRows = (g : Flow) (p : ℕ) (rows : List _) → box_says.rows (view_of (box_at g p)) rows → rows ≡ rows_of (box_at g p)
