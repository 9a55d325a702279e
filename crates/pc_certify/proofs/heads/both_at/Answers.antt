use Rattle.pc_certify.proofs.Filling.{both_over}
use Rattle.pc_certify.proofs.heads.both_at.Goals as goal

pub returns-in-Ok : goal.returns-in-Ok
returns-in-Ok c =
    both_over c.args.g.now c.args.annotation.now c.args.others.now c.args.p c.rows_at.result.now c.rows_at-2.result.now c.in-Ok.rows
    c.requires.rows c.requires.others c.rows_at.ensures c.rows_at-2.ensures c.in-Ok.ensures.1
