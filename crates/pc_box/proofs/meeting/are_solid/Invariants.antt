use Rattle.std.proofs.Common.{◌≡◌, true}
use Rattle.pc_box.specs.Boxes.{all_below}
use Rattle.pc_box.specs.Meeting.{is_solid_at}
use Rattle.pc_box.proofs.meeting.are_solid.Given as goal

abbrev pub invariant-loop-v : goal.invariant-loop-v
invariant-loop-v l = all_below (is_solid_at l.intervals) l.v ≡ true
