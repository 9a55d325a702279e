-- What inference promises of graphs.
use Rattle.std.specs.Prelude.{length}
use Rattle.std.specs.List.{AllByRecursion as Each}
use Rattle.pc_rows.specs.Linear.{MeetsSome}
use Rattle.pc_rows.specs.Linear.{State}
use Rattle.pc_flow.specs.Exact.{StraightEdge}
use Rattle.pc_flow.specs.Flow.{Flow}
use Rattle.pc_flow.specs.Shape.{NoHeads, IsGraph}
use Rattle.pc_flow.specs.Walk.{IsEntry, Breaks}
use Rattle.pc_lower.specs.Tame.{IsTame}
use Rattle.pc_certificate.specs.Certificate.{Certificate, condition_of}
use Rattle.pc_certify.specs.Inferring.{IsExact}

-- what has neither tests nor loops, nor numbers that are not tame
pub record IsStraight (g : Flow) : Type 0 where
  pub heads : NoHeads g.points
  pub edges : Each (StraightEdge (length g.points) g.variables) g.edges
  pub tame : IsTame g

-- from an entry state that does not meet what was inferred of such a graph some walk comes to an assertion that does not hold
abbrev pub InferIsExactOnGraphs : Type 0
InferIsExactOnGraphs =
    (g : Flow) (c : Certificate) → IsGraph g → IsStraight g → IsExact g c →
    (s : State) → IsEntry g s → (MeetsSome s (condition_of c) → ⊥) → Breaks g s
