use Rattle.pc_entail.proofs.Copying.{premise_more}
use Rattle.pc_entail.proofs.entailment.add.Goals as goal

pub loop-i-preserved : goal.loop-i-preserved
loop-i-preserved c = premise_more c.args.system.now.premises c.args.rows.now c.args.system.now.goal c.loop-i.i c.at.result.now c.loop-i.system c.push.new.self c.at.ensures c.loop-i.invariant (rw c.copy.ensures.value at c.in_ok-push.ensures.ok)
