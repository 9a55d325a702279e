use Rattle.std.proofs.Common.{drop}
use Rattle.std.specs.List.{AllByRecursion as Each}
use Rattle.pc_flow.specs.Incidence.{entering}
use Rattle.pc_fixpoint.specs.Marks.{IsMarked, AreStill}
use Rattle.pc_fixpoint.proofs.marks.has_news.Given as goal

-- the edges before place k come from points without marks
abbrev pub invariant-loop-k : goal.invariant-loop-k
invariant-loop-k l = Each (λ e. IsMarked l.moved e.from → ⊥) (drop l.k (entering l.p l.g.edges)) → AreStill l.g l.moved l.p
