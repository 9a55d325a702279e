use Rattle.std.proofs.Common.{◌≡◌}
use Rattle.pc_box.specs.Boxes.{tabulated, entered_at}
use Rattle.pc_box.proofs.intervals.entered.Given as goal

abbrev pub invariant-loop-v : goal.invariant-loop-v
invariant-loop-v l = l.list ≡ tabulated (entered_at l.params l.intervals) l.v
