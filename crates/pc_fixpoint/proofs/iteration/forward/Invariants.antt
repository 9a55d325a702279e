use Rattle.std.proofs.Common.{◌*◌, length}
use Rattle.pc_domain.specs.declared.limits.TheConstants.{PARTS}
use Rattle.pc_fixpoint.specs.Flowing.{heads}
use Rattle.pc_fixpoint.specs.Marks.{MarksTell}
use Rattle.pc_fixpoint.specs.Rounds.{weight}
use Rattle.pc_fixpoint.proofs.Turning.{left}
use Rattle.pc_fixpoint.proofs.iteration.forward.Given as goal

abbrev pub invariant-rounds : goal.invariant-rounds
invariant-rounds g l = MarksTell g.D.Forward l.g (length l.g.points) l.values l.moved

abbrev pub decreases-rounds : goal.decreases-rounds
decreases-rounds g l = left g.D.Forward.TOP_ROUND l.round (PARTS * length (heads l.g)) (weight g.D.Forward.parts (heads l.g) l.values)
