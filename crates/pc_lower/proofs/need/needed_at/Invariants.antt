use Rattle.pc_flow.specs.Annotation.{rows_at}
use Rattle.pc_flow.specs.Incidence.{leaving}
use Rattle.pc_lower.specs.Unchecked.{seen}
use Rattle.pc_lower.proofs.Leaving.{Gathers}
use Rattle.pc_lower.proofs.need.needed_at.Given as goal

abbrev pub invariant-loop-k : goal.invariant-loop-k
invariant-loop-k l = Gathers (rows_at l.rows) (leaving l.p (seen l.asserted l.g).edges) l.k l.needed
