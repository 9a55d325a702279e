use Rattle.std.proofs.Common.{◌+◌, length}
use Rattle.pc_rows.specs.Merges.{Merged}
use Rattle.pc_rows.proofs.terms.plus_multiple.Given as goal

abbrev pub invariant-loop-left : goal.invariant-loop-left
invariant-loop-left l = Merged l.a l.k l.b l.left l.right l.sum

abbrev pub decreases-loop-left : goal.decreases-loop-left
decreases-loop-left l = length l.left + length l.right
