use Rattle.std.proofs.Common.{List, ap, length, arith}
use Rattle.pc_box.specs.declared.interval.Interval.{Interval}
use Rattle.pc_box.specs.Boxes.{steady_at}
use Rattle.pc_box.proofs.Tables.{tabulated_long}
use Rattle.pc_box.proofs.intervals.steadies.Goals as goal

pub returns-clause-long : goal.returns-clause-long
returns-clause-long c =
    let long = tabulated_long (steady_at c.args.old.now c.args.newer.now) c.loop-v.v in
    let same = ap (λ (z : List Interval). length z) c.loop-v.invariant in
    omega (arith, c.len-v-end.ensures, c.loop-v-test.false, c.loop-v.auto.v-end)
