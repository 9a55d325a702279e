use Rattle.std.proofs.Common.{◌≡◌}
use Rattle.pc_box.specs.Boxes.{tabulated, exchanged}
use Rattle.pc_box.proofs.intervals.put.Given as goal

abbrev pub invariant-loop-v : goal.invariant-loop-v
invariant-loop-v l = l.list ≡ tabulated (exchanged l.intervals l.x l.interval) l.v
