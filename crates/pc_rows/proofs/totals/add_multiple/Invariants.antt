use Rattle.std.proofs.Common.{◌≡◌, ◌++◌, take, drop, length}
use Rattle.pc_rows.specs.declared.row.TheConstants.{VARIABLES}
use Rattle.pc_rows.specs.Linear.{add_lists, scale_list}
use Rattle.pc_rows.specs.Merges.{MultipleFits}
use Rattle.pc_rows.proofs.totals.add_multiple.Given as goal

abbrev pub invariant-loop-v : goal.invariant-loop-v
invariant-loop-v l = record {
  long : length l.sums ≡ VARIABLES;
  rest : take l.v l.sums ++ add_lists (drop l.v l.sums) (scale_list l.k (drop l.v l.r.coefficients)) ≡ add_lists l.initial.sums (scale_list l.k l.r.coefficients);
  fits : MultipleFits l.initial.sums l.k l.r.coefficients → MultipleFits (drop l.v l.sums) l.k (drop l.v l.r.coefficients);
  back : MultipleFits (drop l.v l.sums) l.k (drop l.v l.r.coefficients) → MultipleFits l.initial.sums l.k l.r.coefficients;
}
