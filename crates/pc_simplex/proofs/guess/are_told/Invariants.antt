use Rattle.std.proofs.Common.{drop}
use Rattle.std.specs.List.{AllByRecursion}
use Rattle.pc_simplex.specs.Searching.{IsTold}
use Rattle.pc_simplex.proofs.guess.are_told.Given as goal

abbrev pub invariant-loop-i : goal.invariant-loop-i
invariant-loop-i l = record {
  all : AllByRecursion (IsTold l.p) l.s.premises → AllByRecursion (IsTold l.p) (drop l.i l.s.premises);
  back : AllByRecursion (IsTold l.p) (drop l.i l.s.premises) → AllByRecursion (IsTold l.p) l.s.premises;
}
