use Rattle.std.proofs.Common.{◌+◌, ◌-◌}
use Rattle.pc_fixpoint.specs.Sweeps.{AreMarked, left}
use Rattle.pc_fixpoint.proofs.recession.backward.Given as goal

abbrev pub invariant-rounds : goal.invariant-rounds
invariant-rounds g l = AreMarked g.B.Backward l.g l.values l.spent

-- the rounds before the last one, and the heads that may be narrowed once more
abbrev pub decreases-rounds : goal.decreases-rounds
decreases-rounds g l = (g.B.Backward.LAST_ROUND - l.round) + left l.spent
