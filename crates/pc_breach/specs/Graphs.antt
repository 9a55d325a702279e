-- The graphs on which choices are sought: without loops, tests and open ends.
use Rattle.std.specs.Prelude.{◌≡◌, false, is_none}
use Rattle.std.specs.List.{AllByRecursion as Each}
use Rattle.pc_language.specs.Ends.{end_of}
use Rattle.pc_flow.specs.declared.what.What.{What}
use Rattle.pc_flow.specs.declared.what.What.TheVariants.{Enter, Test, Set, Check}
use Rattle.pc_flow.specs.Exact.{NoRows}
use Rattle.pc_flow.specs.Flow.{Flow}
use Rattle.pc_flow.specs.Shape.{NoHeads}

-- both ends of a choice are closed
abbrev pub IsClosed : What → Type 0
IsClosed (Set x form lo hi) = (is_none (end_of lo) ≡ false) × (is_none (end_of hi) ≡ false)
IsClosed (Enter params) = Unit {0}
IsClosed (Test rows) = Unit {0}
IsClosed (Check rows) = Unit {0}

-- no point is the head of a loop, no test has rows, and no end of a choice is open
pub record IsStraight (g : Flow) : Type 0 where
  pub heads : NoHeads g.points
  pub tests : Each (λ e. NoRows e.what) g.edges
  pub ends : Each (λ e. IsClosed e.what) g.edges
