use Rattle.std.proofs.Common.{◌≡◌}
use Rattle.pc_box.specs.Boxes.{rows_below}
use Rattle.pc_box.proofs.intervals.rows_of.Given as goal

abbrev pub invariant-loop-v : goal.invariant-loop-v
invariant-loop-v l = l.rows ≡ rows_below l.intervals l.v
