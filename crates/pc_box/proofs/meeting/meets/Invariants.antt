use Rattle.std.proofs.Common.{◌≡◌}
use Rattle.pc_box.specs.Boxes.{tabulated}
use Rattle.pc_box.specs.Meeting.{meet_at}
use Rattle.pc_box.proofs.meeting.meets.Given as goal

abbrev pub invariant-loop-v : goal.invariant-loop-v
invariant-loop-v l = l.list ≡ tabulated (meet_at l.a l.b) l.v
