use Rattle.std.proofs.Common.{◌≡◌, ◌++◌, take, drop, length}
use Rattle.pc_rows.specs.declared.row.TheConstants.{VARIABLES}
use Rattle.pc_simplex.specs.Values.{AreZero}
use Rattle.pc_simplex.specs.Pivoting.{numbers_after, numbers_fit}
use Rattle.pc_simplex.proofs.line.pivot.Pivot.change_numbers.Given as goal

abbrev pub invariant-loop-k : goal.invariant-loop-k
invariant-loop-k l = record {
  long : length l.numbers ≡ VARIABLES;
  zero : AreZero (drop l.width l.numbers);
  rest : take l.k l.numbers ++ numbers_after l.self l.factor l.k (drop l.k l.numbers) (drop l.k l.self.line.numbers) ≡ numbers_after l.self l.factor 0 l.initial.numbers l.self.line.numbers;
  fits : numbers_fit l.self l.factor l.k (drop l.k l.numbers) (drop l.k l.self.line.numbers) ≡ numbers_fit l.self l.factor 0 l.initial.numbers l.self.line.numbers;
}
