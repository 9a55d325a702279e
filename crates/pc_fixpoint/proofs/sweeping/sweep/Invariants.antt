use Rattle.std.proofs.Common.{◌≤◌, length}
use Rattle.pc_fixpoint.specs.Sweeps.{Swept}
use Rattle.pc_fixpoint.proofs.sweeping.sweep.Given as goal

abbrev pub invariant-points : goal.invariant-points
invariant-points g l = record {
  within : l.p ≤ length l.g.points;
  swept : Swept g.B.Backward l.g l.round l.p l.initial.spent l.changed l.values l.spent;
}

abbrev pub decreases-points : goal.decreases-points
decreases-points g l = l.p
