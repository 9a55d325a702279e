use Rattle.std.proofs.Common.{List, ◌++◌, length}
use Rattle.std.specs.List.{AllByRecursion}
use Rattle.pc_certificate.specs.declared.certificate.Annotated.{Annotated}
use Rattle.pc_certify.specs.Selecting.{HasEntry, Without}
use Rattle.pc_certify.proofs.selection.without.Given as goal

abbrev pub invariant-rest : goal.invariant-rest
invariant-rest l = record {
  go_on : (more : List Annotated) → Without l.a l.kept more → Without l.a l.fn.kept (l.left ++ more);
  kept : AllByRecursion HasEntry l.kept;
  left : AllByRecursion HasEntry l.left;
}

abbrev pub decreases-rest : goal.decreases-rest
decreases-rest l = length l.kept
