use Rattle.pc_flow.specs.Annotation.{rows_at}
use Rattle.pc_flow.specs.Incidence.{leaving}
use Rattle.pc_lower.proofs.Owing.{Carried}
use Rattle.pc_lower.proofs.turn.carry_all.Given as goal

abbrev pub invariant-loop-k : goal.invariant-loop-k
invariant-loop-k l = Carried (rows_at l.rows) (leaving l.h l.g.edges) l.k
