use Rattle.std.proofs.Common.{◌≡◌}
use Rattle.pc_box.specs.Boxes.{tabulated, steady_at}
use Rattle.pc_box.proofs.intervals.steadies.Given as goal

abbrev pub invariant-loop-v : goal.invariant-loop-v
invariant-loop-v l = l.list ≡ tabulated (steady_at l.old l.newer) l.v
