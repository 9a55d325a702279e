use Rattle.std.proofs.Common.{◌≡◌, ◌++◌, ◌-◌, take, length}
use Rattle.pc_rows.specs.declared.row.TheConstants.{VARIABLES}
use Rattle.pc_simplex.specs.Turns.{variables_from}
use Rattle.pc_simplex.proofs.table.variables.Given as goal

abbrev pub invariant-loop-v : goal.invariant-loop-v
invariant-loop-v l = record {
  long : length l.all ≡ VARIABLES;
  rest : take l.v l.all ++ variables_from (VARIABLES - l.v) l.v ≡ variables_from VARIABLES 0;
}
