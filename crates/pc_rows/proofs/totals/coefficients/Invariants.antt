use Rattle.std.proofs.Common.{◌≡◌, ◌++◌, take, drop, length}
use Rattle.pc_rows.specs.declared.row.TheConstants.{VARIABLES}
use Rattle.pc_rows.proofs.totals.coefficients.Given as goal

abbrev pub invariant-loop-v : goal.invariant-loop-v
invariant-loop-v l = record {
  long : length l.all ≡ VARIABLES;
  rest : take l.v l.all ++ drop l.v l.r.coefficients ≡ l.r.coefficients;
}
