use Rattle.std.proofs.Common.{◌≡◌}
use Rattle.pc_box.specs.Boxes.{interval_at, tabulated}
use Rattle.pc_box.proofs.entering.firsts.Given as goal

abbrev pub invariant-loop-v : goal.invariant-loop-v
invariant-loop-v l = l.list ≡ tabulated (interval_at l.intervals) l.v
