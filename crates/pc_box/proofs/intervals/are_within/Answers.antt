use Rattle.std.proofs.Common.{◌≡◌, false, sym, length, rules, arith}
use Rattle.pc_box.specs.Boxes.{within_at}
use Rattle.pc_box.proofs.Tables.{some_false}
use Rattle.pc_box.proofs.intervals.are_within.Goals as goal

pub returns-then-not-is_within : goal.returns-then-not-is_within
returns-then-not-is_within c =
    let within : within_at c.args.a.now c.args.b.now c.loop-v.v ≡ false = search rules in
    sym (some_false (within_at c.args.a.now c.args.b.now) (length c.args.b.now) c.loop-v.v (omega arith) within)
