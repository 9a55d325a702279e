use Rattle.std.proofs.Common.{◌≡◌, drop}
use Rattle.std.specs.List.{zip}
use Rattle.pc_flow.specs.Carry.{asked}
use Rattle.pc_flow.specs.Annotation.{rows_at}
use Rattle.pc_replay.specs.Rule.{in_order, row_ruling}
use Rattle.pc_replay.proofs.edge.edge.Given as goal

abbrev pub invariant-loop-k : goal.invariant-loop-k
invariant-loop-k l =
    in_order (row_ruling l.n l.a l.i l.e) l.k (drop l.k (zip (asked l.e.what (rows_at l.a.rows l.e.to)) l.proofs)) ≡
    in_order (row_ruling l.n l.a l.i l.e) 0 (zip (asked l.e.what (rows_at l.a.rows l.e.to)) l.proofs)
