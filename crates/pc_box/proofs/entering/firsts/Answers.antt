use Rattle.std.proofs.Common.{List, ap, length, arith}
use Rattle.pc_box.specs.declared.interval.Interval.{Interval}
use Rattle.pc_box.specs.Boxes.{interval_at}
use Rattle.pc_box.proofs.Tables.{tabulated_long}
use Rattle.pc_box.proofs.entering.firsts.Goals as goal

pub returns-clause-long : goal.returns-clause-long
returns-clause-long c =
    let long = tabulated_long (interval_at c.args.intervals.now) c.loop-v.v in
    let same = ap (λ (z : List Interval). length z) c.loop-v.invariant in
    omega (arith, c.min-v-end.ensures, c.loop-v-test.false, c.loop-v.auto.v-end, c.len.ensures)
