use Rattle.pc_flow.specs.Incidence.{entering}
use Rattle.pc_fixpoint.specs.Flowing.{After, Join}
use Rattle.pc_domain.proofs.Folding.{Remains}
use Rattle.pc_fixpoint.proofs.gathering.gathered.Given as goal

abbrev pub invariant-loop-k : goal.invariant-loop-k
invariant-loop-k g l = Remains (After g.D.Forward) (Join g.D.Forward) (λ e. e.from) l.values (entering l.p l.g.edges) l.k l.v l.initial.v
