-- A row that is not met is followed from the entry to an assertion that fails: which edge and which owed row are taken at each point, and which choice a step over the edge takes.
use Rattle.std.specs.Prelude.{◌==◌, ◌&&◌, ◌++◌, ◌∷◌, [], List, ℕ, zero, suc, Bool, true, false, if◌then◌else◌, Option, Some, None, unwrap_or, option_to_list, ℤ, pos, int_lt, length}
use Rattle.std.specs.List.{list_any}
use Rattle.pc_language.specs.Ends.{end_of}
use Rattle.pc_rows.specs.Linear.{Linear, coefficient}
use Rattle.pc_rows.specs.Joins.{is_at_most}
use Rattle.pc_flow.specs.declared.what.What.{What}
use Rattle.pc_flow.specs.declared.what.What.TheVariants.{Enter, Test, Set, Check}
use Rattle.pc_flow.specs.Arc.{Arc}
use Rattle.pc_flow.specs.Carry.{back}
use Rattle.pc_flow.specs.Exact.{PointRows}
use Rattle.pc_flow.specs.Incidence.{leaving}
use Rattle.pc_breach.specs.declared.step.Step.{Step}

-- two rows are equal where each is at most the other: the same coefficients, and constants of which neither is greater
abbrev pub is_same : Linear → Linear → Bool
is_same a b = is_at_most a b && is_at_most b a

-- the rows that an edge owes for its own sake, before those of its target: an assertion its own
abbrev pub own_rows : What → List Linear
own_rows (Check own) = own
own_rows (Enter params) = []
own_rows (Test rows) = []
own_rows (Set x form lo hi) = []

-- the integer of an interval at which c times it is least: the low end where c is positive, the high end where it is negative, and 0 where c is 0
abbrev pub end_for : ℤ → Option ℤ → Option ℤ → ℤ
end_for c lo hi = if int_lt (pos 0) c then unwrap_or lo (pos 0) else (if int_lt c (pos 0) then unwrap_or hi (pos 0) else pos 0)

-- the edges from a point: whether one is the first of them, and whether it is the only one
pub record Standing : Type 0 where
  pub first : Bool
  pub only : Bool

-- the choice of a step over an edge at whose target row r is followed; the only test from a point leads to the end of an `if` and is no step
abbrev pub choice : Standing → What → Linear → Option ℤ
choice at (Enter params) r = None
choice at (Test rows) r = if at.only then None else Some (if at.first then pos 1 else pos 0)
choice at (Set x form lo hi) r = Some (end_for (coefficient r x) (end_of lo) (end_of hi))
choice at (Check rows) r = Some (pos 0)

-- the step over an edge by the first row at its target that is r when it is carried back
abbrev pub carried_step : Standing → Arc → Linear → List Linear → Option Step
carried_step at e r [] = None
carried_step at e r (z ∷ rows) = if is_same (back e.what z) r then Some (record { choice = choice at e.what z; to = e.to; row = Some z }) else carried_step at e r rows

-- the step over an edge that owes row r, by the first row that it owes and that is r; where it is an assertion's own row, the assertion fails, and that step is the last
abbrev pub step_over : Standing → Arc → Linear → List Linear → Option Step
step_over at e r rows = if list_any (λ x. is_same x r) (own_rows e.what) then Some (record { choice = Some (pos 0); to = e.to; row = None }) else carried_step at e r rows

-- the first of two that is there
abbrev pub first_of_two : Option Step → Option Step → Option Step
first_of_two None other = other
first_of_two (Some step) other = Some step

-- the step over the first of some edges that owes row r
abbrev pub step_over_some : Standing → PointRows → Linear → List Arc → Option Step
step_over_some at a r [] = None
step_over_some at a r (e ∷ edges) = first_of_two (step_over at e r (a e.to)) (step_over_some (record { first = false; only = at.only }) a r edges)

-- the step from a point by the first edge from it that owes row r
abbrev pub step_from : List Arc → PointRows → ℕ → Linear → Option Step
step_from edges a p r = step_over_some (record { first = true; only = length (leaving p edges) == 1 }) a r (leaving p edges)

-- the choices of a step and of those after it, which `later` gives from the point and the row to which it leads
abbrev pub after_row : (Linear → List ℤ) → Option Linear → List ℤ
after_row later None = []
after_row later (Some r) = later r

abbrev pub after_step : (ℕ → Linear → List ℤ) → Option Step → List ℤ
after_step later None = []
after_step later (Some step) = option_to_list step.choice ++ after_row (later step.to) step.row

-- the choices of at most n steps by which row r is followed from point p
abbrev pub followed : List Arc → PointRows → ℕ → ℕ → Linear → List ℤ
followed edges a zero p r = []
followed edges a (suc n) p r = after_step (followed edges a n) (step_from edges a p r)
