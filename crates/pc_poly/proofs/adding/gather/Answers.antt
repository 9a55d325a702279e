use Rattle.pc_poly.proofs.Gathering.{gathered_next}
use Rattle.pc_poly.specs.Rows.{gathered}
use Rattle.pc_poly.proofs.adding.gather.Goals as goal

pub loop-i-preserved : goal.loop-i-preserved
loop-i-preserved c =
    gathered_next c.loop-i.rows c.args.more.now c.add.new.rows (gathered c.args.rows.now c.args.more.now) c.loop-i.i c.at.result.now c.at.ensures
    (rw c.copy.ensures.value at c.in_ok-add.ensures) c.loop-i.invariant
