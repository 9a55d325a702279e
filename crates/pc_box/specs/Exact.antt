-- Graphs on which boxes backwards lose nothing.
use Rattle.std.specs.Prelude.{◌↔◌, ℕ, ◌≤◌, ◌^◌, List, length, IsSomeAnd, slice_get}
use Rattle.std.specs.List.{AllByRecursion as Each}
use Rattle.pc_language.specs.Ends.{end_of}
use Rattle.pc_rows.specs.Bounds.{Within, AllWithin}
use Rattle.pc_rows.specs.Laws.{EndIsWithin}
use Rattle.pc_rows.specs.Linear.{Linear, State, MeetsAll}
use Rattle.pc_rows.specs.Readers.{terms_of}
use Rattle.pc_flow.specs.declared.what.What.{What}
use Rattle.pc_flow.specs.declared.what.What.TheVariants.{Enter, Test, Set, Check}
use Rattle.pc_flow.specs.Arc.{Arc}
use Rattle.pc_flow.specs.Exact.{StraightEdge}
use Rattle.pc_flow.specs.Flow.{Flow}
use Rattle.pc_flow.specs.Shape.{NoHeads, IsGraph}
use Rattle.pc_flow.specs.Walk.{IsEntry, GraphSafe}
use Rattle.pc_domain.specs.Fold.{IsBackFold}
use Rattle.pc_domain.specs.View.{View}
use Rattle.pc_box.specs.Backward.{box_back_says}

-- at most one variable
abbrev pub IsOfOne : Linear → Type 0
IsOfOne r = length (terms_of r) ≤ 1

-- no form and no row of an assertion has two variables
abbrev pub HasOneVariable : What → Type 0
HasOneVariable (Enter params) = Unit {0}
HasOneVariable (Test rows) = Unit {0}
HasOneVariable (Set x form lo hi) = IsOfOne form
HasOneVariable (Check rows) = Each IsOfOne rows

-- the greatest absolute value of a small number
abbrev pub small_bound : ℕ
small_bound = 2 ^ 60

-- the numbers of what is assigned and asserted are small; of an open end nothing is asked. The bounds of boxes need nothing more: over an edge
-- they grow by a form's constant and an end of a choice alone
abbrev pub HasSmallNumbers : What → Type 0
HasSmallNumbers (Enter params) = Unit {0}
HasSmallNumbers (Test rows) = Unit {0}
HasSmallNumbers (Set x form lo hi) = Within small_bound form × EndIsWithin small_bound (end_of lo) × EndIsWithin small_bound (end_of hi)
HasSmallNumbers (Check rows) = AllWithin small_bound rows

-- an edge over which a box goes back exactly
pub record IsExactEdge (g : Flow) (e : Arc) : Type 0 where
  pub straight : StraightEdge (length g.points) g.variables e
  pub one : HasOneVariable e.what
  pub small : HasSmallNumbers e.what

-- the rows that are said of the fold's view at the entry are met by exactly the safe entry states
abbrev pub BoxesBackAreExact : Type 0
BoxesBackAreExact =
    (g : Flow) (views : List View) (rows : List Linear) (s : State) → IsGraph g → NoHeads g.points → Each (IsExactEdge g) g.edges →
    IsBackFold box_back_says g views → IsSomeAnd (slice_get views 0) (λ v. box_back_says.rows v g.params rows) → IsEntry g s →
    MeetsAll s rows ↔ GraphSafe g s
