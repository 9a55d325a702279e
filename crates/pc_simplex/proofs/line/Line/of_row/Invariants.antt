use Rattle.std.proofs.Common.{◌≡◌, ◌≤◌, drop, length}
use Rattle.pc_rows.specs.declared.row.TheConstants.{VARIABLES}
use Rattle.pc_rows.specs.Readers.{terms_of}
use Rattle.pc_simplex.specs.Values.{AreZero}
use Rattle.pc_simplex.proofs.TermLists.{with_terms}
use Rattle.pc_simplex.proofs.line.Line.of_row.Given as goal

abbrev pub invariant-loop-k : goal.invariant-loop-k
invariant-loop-k l = record {
  long : length l.numbers ≡ VARIABLES;
  most : l.width ≤ VARIABLES;
  zero : AreZero (drop l.width l.numbers);
  rest : with_terms l.numbers (drop l.k (terms_of l.r)) ≡ l.r.coefficients;
}
