use Rattle.std.proofs.Common.{sym}
use Rattle.pc_rows.specs.Linear.{Linear}
use Rattle.pc_rows.specs.Joins.{is_at_most}
use Rattle.pc_flow.specs.Carry.{premises}
use Rattle.pc_replay.proofs.Turns.{found_here, found_later}
use Rattle.pc_certify.proofs.cover.first_cover.Goals as goal

pub returns-then-is_at_most-clause-first : goal.returns-then-is_at_most-clause-first
returns-then-is_at_most-clause-first c =
    let all = premises c.args.origin.now.edge.now.what c.args.origin.now.rows.now in
    found_here all c.loop-i.i c.premise.result.now c.premise.ensures (λ (r : Linear). is_at_most r c.args.goal.now) _ (sym c.if-is_at_most.ensures) c.loop-i.invariant

pub loop-i-preserved : goal.loop-i-preserved
loop-i-preserved c =
    let all = premises c.args.origin.now.edge.now.what c.args.origin.now.rows.now in
    found_later all c.loop-i.i c.premise.result.now c.premise.ensures (λ (r : Linear). is_at_most r c.args.goal.now) _ (sym c.if-is_at_most.ensures) c.loop-i.invariant
