use Rattle.std.proofs.Common.{List, length}
use Rattle.std.specs.List.{AllByRecursion}
use Rattle.pc_certificate.specs.declared.certificate.Annotated.{Annotated}
use Rattle.pc_certify.specs.Candidates.{AreHeads}
use Rattle.pc_certify.specs.Inferring.{TakesHeads, TakesEach}
use Rattle.pc_certify.specs.Selecting.{HasEntry}
use Rattle.pc_certify.proofs.loops.with_all.Given as goal

abbrev pub invariant-rest : goal.invariant-rest
invariant-rest l = record {
  go_on : (new : List Annotated) → TakesEach (TakesHeads l.g) l.later l.kept new → TakesEach (TakesHeads l.g) l.fn.later l.fn.kept new;
  heads : AllByRecursion (AreHeads l.g) l.later;
  entries : AllByRecursion HasEntry l.kept;
}

abbrev pub decreases-rest : goal.decreases-rest
decreases-rest l = length l.later
