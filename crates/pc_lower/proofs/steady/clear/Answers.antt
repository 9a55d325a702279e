use Rattle.std.proofs.Common.{arith}
use Rattle.pc_lower.proofs.Steadiness.{clears_none, clears_next, clears_all}
use Rattle.pc_lower.proofs.steady.clear.Goals as goal

pub loop-p-init : goal.loop-p-init
loop-p-init c = record { cleared = clears_none c.args.low c.args.rows.now; within = c.requires.ordered }

pub loop-p-preserved : goal.loop-p-preserved
loop-p-preserved c =
    let long = c.loop-p.invariant.cleared.long in
    record {
      cleared = clears_next c.args.low c.loop-p.p c.args.rows.now c.loop-p.rows c.set.new.self c.new.result (omega arith) (omega arith) c.new.ensures c.set.ensures c.loop-p.invariant.cleared;
      within = omega arith;
    }

pub returns : goal.returns
returns c = clears_all c.args.low c.loop-p.p c.args.high c.args.rows.now c.loop-p.rows c.loop-p.invariant.within (omega arith) c.loop-p.invariant.cleared
