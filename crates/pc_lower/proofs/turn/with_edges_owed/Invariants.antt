use Rattle.pc_flow.specs.Annotation.{rows_at}
use Rattle.pc_lower.proofs.Owing.{Passes}
use Rattle.pc_lower.proofs.turn.with_edges_owed.Given as goal

abbrev pub invariant-loop-k : goal.invariant-loop-k
invariant-loop-k l = Passes l.g l.m l.h (rows_at l.rows) l.k l.present
