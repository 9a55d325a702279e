use Rattle.std.proofs.Common.{◌≡◌, drop}
use Rattle.std.specs.List.{position_from}
use Rattle.pc_rows.specs.Joins.{is_at_most}
use Rattle.pc_flow.specs.Carry.{premises}
use Rattle.pc_certify.proofs.cover.first_cover.Given as goal

abbrev pub invariant-loop-i : goal.invariant-loop-i
invariant-loop-i l =
    position_from (λ r. is_at_most r l.goal) l.i (drop l.i (premises l.origin.edge.now.what l.origin.rows.now)) ≡ position_from (λ r. is_at_most r l.goal) 0 (premises l.origin.edge.now.what l.origin.rows.now)
