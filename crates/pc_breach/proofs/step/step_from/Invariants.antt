use Rattle.pc_flow.specs.Annotation.{rows_at}
use Rattle.pc_flow.specs.Incidence.{leaving}
use Rattle.pc_breach.proofs.Stepping.{Searched}
use Rattle.pc_breach.proofs.step.step_from.Given as goal

abbrev pub invariant-loop-k : goal.invariant-loop-k
invariant-loop-k l = Searched l.only (rows_at l.rows) l.r (leaving l.p l.g.edges) l.k
