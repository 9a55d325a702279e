use Rattle.std.proofs.Common.{◌≡◌}
use Rattle.pc_box.specs.Boxes.{tabulated, hull_at}
use Rattle.pc_box.proofs.intervals.hulls.Given as goal

abbrev pub invariant-loop-v : goal.invariant-loop-v
invariant-loop-v l = l.list ≡ tabulated (hull_at l.a l.b) l.v
