use Rattle.std.proofs.Common.{take}
use Rattle.pc_flow.specs.Carry.{asked, premises}
use Rattle.pc_replay.specs.Accepts.{RowProved}
use Rattle.pc_certify.specs.Lists.{Pairwise}
use Rattle.pc_certify.proofs.edge.asked_proofs.Given as goal

abbrev pub invariant-loop-k : goal.invariant-loop-k
invariant-loop-k l =
    Pairwise (RowProved l.origin.edge.now.what (premises l.origin.edge.now.what l.origin.rows.now)) (take l.k (asked l.origin.edge.now.what l.target)) l.proofs
