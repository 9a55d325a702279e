use Rattle.std.proofs.Common.{◌≡◌, true}
use Rattle.pc_box.specs.Boxes.{all_below, within_at}
use Rattle.pc_box.proofs.intervals.are_within.Given as goal

abbrev pub invariant-loop-v : goal.invariant-loop-v
invariant-loop-v l = all_below (within_at l.a l.b) l.v ≡ true
