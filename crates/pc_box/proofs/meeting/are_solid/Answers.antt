use Rattle.std.proofs.Common.{◌≡◌, true, false, refl, sym, length, rules, arith}
use Rattle.pc_box.specs.Intervals.{is_hollow}
use Rattle.pc_box.specs.Boxes.{interval_at}
use Rattle.pc_box.specs.Meeting.{is_solid_at}
use Rattle.pc_box.proofs.Tables.{some_false}
use Rattle.pc_box.proofs.meeting.are_solid.Goals as goal

pub returns-then-is_hollow : goal.returns-then-is_hollow
returns-then-is_hollow c =
    let bs = c.args.intervals.now in
    let v = c.loop-v.v in
    let hollow : is_hollow (interval_at bs v) ≡ true = search rules in
    let none : is_solid_at bs v ≡ false = rw hollow refl in
    sym (some_false (is_solid_at bs) (length bs) v (omega arith) none)
