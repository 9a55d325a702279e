use Rattle.pc_entail.proofs.Copying.{row_more}
use Rattle.pc_poly.proofs.member.items_of.Goals as goal

pub loop-i-preserved : goal.loop-i-preserved
loop-i-preserved c =
    row_more c.args.rows.now c.loop-i.items c.push.new.self c.args.rows.now c.loop-i.i c.at.result.now c.at.ensures c.loop-i.invariant (rw c.copy.ensures.value at c.in_ok-push.ensures.ok)
