use Rattle.pc_poly.proofs.Keeping.{kept_next}
use Rattle.pc_poly.proofs.showing.shown.Goals as goal

pub loop-i-preserved : goal.loop-i-preserved
loop-i-preserved c =
    kept_next c.args.rows.now c.args.other.now c.loop-i.kept c.keep_shown.new.kept c.loop-i.i c.at.result.now c.at.ensures c.loop-i.invariant c.in_ok-keep_shown.ensures
