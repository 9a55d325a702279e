-- What is tried for a graph.
use Rattle.std.specs.Prelude.{◌≡◌, ◌⊎◌, List, length}
use Rattle.pc_flow.specs.Annotation.{Annotation}
use Rattle.pc_flow.specs.Flow.{Flow}
use Rattle.pc_flow.specs.Shape.{NoHeads}
use Rattle.pc_lower.specs.declared.fault.CandidateFault.TheVariants.{Past, Full}
use Rattle.pc_lower.specs.declared.mode.Mode.{Mode}
use Rattle.pc_lower.specs.Annotation.{AreOver, no_rows}
use Rattle.pc_lower.specs.Candidate.{candidate}
use Rattle.pc_lower.specs.Course.{candidate_operations}
use Rattle.pc_lower.specs.Need.{need}
use Rattle.pc_lower.specs.Operations.{Operation, operations, IsFirstFault}
use Rattle.pc_lower.specs.TameCourse.{IsTameFor}
use Rattle.pc_certify.specs.Provable.{IsInductive, IsSmall}

-- rows for each point, and the operations by which they are computed
pub record Candidate : Type 0 where
  pub rows : Annotation
  pub operations : List Operation

-- the rows that each point of a graph without loops needs
abbrev pub graph_need : Flow → Annotation
graph_need g = need g (no_rows g.points)

abbrev pub of_need : Flow → Candidate
of_need g = record { rows = graph_need g; operations = operations g (no_rows g.points) }

-- rows for the heads: a list for each point, over the graph's variables
pub record AreHeads (g : Flow) (heads : Annotation) : Type 0 where
  pub long : length heads ≡ length g.points
  pub over : AreOver g.variables heads

-- rows at the heads, and what the other points need for them
abbrev pub of_heads : Flow → Annotation → Candidate
of_heads g heads = record { rows = need g heads; operations = operations g heads }

-- the candidate of a mode
abbrev pub of_mode : Flow → Mode → Candidate
of_mode g m = record { rows = candidate g m; operations = candidate_operations g m }

-- without loops the need is tried; else the candidate of each mode
abbrev pub IsTried : Flow → Candidate → Type 0
IsTried g k = (NoHeads g.points × (k ≡ of_need g)) ⊎ ((NoHeads g.points → ⊥) × ((m : Mode) × (k ≡ of_mode g m)))

-- what an alternative comes from: what is tried, or with loops some rows at the heads
abbrev pub IsOrigin : Flow → Candidate → Type 0
IsOrigin g k = IsTried g k ⊎ ((NoHeads g.points → ⊥) × ((heads : Annotation) × (k ≡ of_heads g heads)))

-- some operation cannot be carried out
abbrev pub IsRefused : Candidate → Type 0
IsRefused k = IsFirstFault Past k.operations ⊎ IsFirstFault Full k.operations

-- the candidate of a mode is promised to be found and proved: its numbers are tame, and what is owed at heads has multipliers
-- and is asked modestly
pub record IsPromised (g : Flow) (m : Mode) : Type 0 where
  pub tame : IsTameFor g m
  pub inductive : IsInductive g (candidate g m)
  pub small : IsSmall g (candidate g m)
