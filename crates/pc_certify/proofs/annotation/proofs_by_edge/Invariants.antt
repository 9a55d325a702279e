use Rattle.std.proofs.Common.{take}
use Rattle.pc_certify.specs.Lists.{Pairwise}
use Rattle.pc_certify.specs.Proving.{EdgeDone}
use Rattle.pc_certify.proofs.annotation.proofs_by_edge.Given as goal

abbrev pub invariant-loop-i : goal.invariant-loop-i
invariant-loop-i l = Pairwise (EdgeDone l.annotation) (take l.i l.g.edges) l.proofs
