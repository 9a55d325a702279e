use Rattle.pc_fixpoint.proofs.Pointing.{head_told}
use Rattle.pc_fixpoint.proofs.heads.is_head.Goals as goal

pub returns : goal.returns
returns c = head_told c.args.g.now c.args.p c.is_head.result c.requires c.is_head.ensures
