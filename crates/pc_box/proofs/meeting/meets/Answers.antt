use Rattle.std.proofs.Common.{List, ap, length, arith}
use Rattle.pc_box.specs.declared.interval.Interval.{Interval}
use Rattle.pc_box.specs.Meeting.{meet_at}
use Rattle.pc_box.proofs.Tables.{tabulated_long}
use Rattle.pc_box.proofs.meeting.meets.Goals as goal

pub returns-clause-long : goal.returns-clause-long
returns-clause-long c =
    let long = tabulated_long (meet_at c.args.a.now c.args.b.now) c.loop-v.v in
    let same = ap (λ (z : List Interval). length z) c.loop-v.invariant in
    omega (arith, c.max-v-end.ensures, c.loop-v-test.false, c.loop-v.auto.v-end, c.len.ensures, c.len-2.ensures)
