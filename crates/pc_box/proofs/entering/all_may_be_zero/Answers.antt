use Rattle.std.proofs.Common.{◌≡◌, false, sym, length, rules, arith}
use Rattle.pc_box.specs.Backward.{may_be_zero}
use Rattle.pc_box.proofs.Tables.{some_false}
use Rattle.pc_box.proofs.entering.all_may_be_zero.Goals as goal

pub returns-then-not-may_be_zero : goal.returns-then-not-may_be_zero
returns-then-not-may_be_zero c =
    let bs = c.args.intervals.now in
    let not : may_be_zero c.args.params bs c.loop-v.v ≡ false = search rules in
    sym (some_false (may_be_zero c.args.params bs) (length bs) c.loop-v.v (omega arith) not)
