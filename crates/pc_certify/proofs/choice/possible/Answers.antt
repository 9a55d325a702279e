use Rattle.pc_certify.proofs.Choosing.{possible_stays}
use Rattle.pc_certify.proofs.choice.possible.Goals as goal

pub returns-else-branch : goal.returns-else-branch
returns-else-branch c = possible_stays c.args.a c.rows_at-rows.result.now c.in_ok-contradictory.field-0 c.rows_at-rows.ensures c.len-most.ensures.most c.in_ok-contradictory.ensures.evidence c.if-branch.false
