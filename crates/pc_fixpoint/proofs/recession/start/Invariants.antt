use Rattle.std.proofs.Common.{◌≡◌, length}
use Rattle.pc_fixpoint.proofs.recession.start.Given as goal

abbrev pub invariant-loop-p : goal.invariant-loop-p
invariant-loop-p g l = length l.values ≡ l._p
