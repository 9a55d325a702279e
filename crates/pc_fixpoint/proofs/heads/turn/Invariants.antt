use Rattle.std.proofs.Common.{◌≤◌, length}
use Rattle.pc_fixpoint.specs.Rounds.{AreWidened, Turned}
use Rattle.pc_fixpoint.proofs.heads.turn.Given as goal

abbrev pub invariant-heads : goal.invariant-heads
invariant-heads g l = record {
  wider : AreWidened g.D.Forward l.g l.round l.initial.values (length l.wider) l.wider;
  within : length l.wider ≤ length l.g.points;
  turned : Turned g.D.Forward l.g l.round (length l.wider) l.initial.values l.changed l.values l.moved;
}

abbrev pub decreases-heads : goal.decreases-heads
decreases-heads g l = length l.wider
