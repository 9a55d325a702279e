use Rattle.pc_flow.specs.Incidence.{leaving}
use Rattle.pc_fixpoint.specs.Ebbing.{Before, Both}
use Rattle.pc_domain.proofs.Folding.{Remains}
use Rattle.pc_fixpoint.proofs.asking.asked.Given as goal

abbrev pub invariant-loop-k : goal.invariant-loop-k
invariant-loop-k g l = Remains (Before g.B.Backward) (Both g.B.Backward) (λ e. e.to) l.values (leaving l.p l.g.edges) l.k l.v l.initial.v
