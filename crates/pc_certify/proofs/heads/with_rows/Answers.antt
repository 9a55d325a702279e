use Rattle.pc_certify.proofs.Filling.{heads_more, found_over}
use Rattle.pc_certify.proofs.heads.with_rows.Goals as goal

pub loop-p-preserved : goal.loop-p-preserved
loop-p-preserved c =
    let g = c.args.g.now in
    heads_more g c.loop-p.p c.loop-p.heads c.push.new.items c.in-Some.rows c.in_ok-push-in-Some.ensures
    (found_over g.variables c.in_ok-rows.field-0 c.in-Some.rows c.in-Some.is c.in_ok-rows.ensures) c.loop-p.invariant
