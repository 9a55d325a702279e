use Rattle.std.proofs.Common.{◌≡◌, true}
use Rattle.pc_box.specs.Boxes.{all_below}
use Rattle.pc_box.specs.Backward.{may_be_zero}
use Rattle.pc_box.proofs.entering.all_may_be_zero.Given as goal

abbrev pub invariant-loop-v : goal.invariant-loop-v
invariant-loop-v l = all_below (may_be_zero l.params l.intervals) l.v ≡ true
