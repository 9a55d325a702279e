use Rattle.std.proofs.Common.{◌≡◌}
use Rattle.pc_fixpoint.specs.Flowing.{heads}
use Rattle.pc_fixpoint.specs.Marks.{MarksTell}
use Rattle.pc_fixpoint.specs.Rounds.{weight}
use Rattle.pc_fixpoint.proofs.iteration.refill.Given as goal

abbrev pub invariant-loop-p : goal.invariant-loop-p
invariant-loop-p g l = record {
  told : MarksTell g.D.Forward l.g l.p l.values l.moved;
  weight : weight g.D.Forward.parts (heads l.g) l.values ≡ weight g.D.Forward.parts (heads l.g) l.initial.values;
}
