use Rattle.std.proofs.Common.{length}
use Rattle.pc_flow.specs.Incidence.{entering}
use Rattle.pc_lower.proofs.Ends.{Ends}
use Rattle.pc_lower.proofs.refresh.end_of_loop.Given as goal

abbrev pub invariant-loop-k : goal.invariant-loop-k
invariant-loop-k l = Ends (length l.g.points) l.h (entering l.h l.g.edges) l.k l.end
