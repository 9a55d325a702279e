use Rattle.std.proofs.Common.{◌≡◌, ◌++◌, take, drop, length}
use Rattle.pc_rows.specs.declared.row.TheConstants.{VARIABLES}
use Rattle.pc_rows.specs.Linear.{negate_list}
use Rattle.pc_simplex.specs.Values.{AreZero}
use Rattle.pc_simplex.proofs.line.negate.Given as goal

abbrev pub invariant-loop-k : goal.invariant-loop-k
invariant-loop-k l = record {
  long : length l.numbers ≡ VARIABLES;
  zero : AreZero (drop l.width l.numbers);
  rest : take l.k l.numbers ++ negate_list (drop l.k l.numbers) ≡ negate_list l.initial.numbers;
}
