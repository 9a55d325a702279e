use Rattle.pc_entail.proofs.Leaving.{step_keeps}
use Rattle.pc_entail.proofs.reduction.step.Goals as goal

pub returns-in-None-clause-exact : goal.returns-in-None-clause-exact
returns-in-None-clause-exact c = step_keeps c.args.kept.now c.args.removed.now c.args.r.now c.args.later.now c.push.result c.push.new.rows (rw c.as_slice.ensures at (rw c.in-None.is at c.in_ok-all.ensures.exact)) c.push.ensures
