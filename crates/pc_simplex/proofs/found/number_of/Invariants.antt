use Rattle.std.proofs.Common.{◌≡◌, drop}
use Rattle.pc_simplex.specs.Found.{number_of}
use Rattle.pc_simplex.proofs.found.number_of.Given as goal

abbrev pub invariant-loop-k : goal.invariant-loop-k
invariant-loop-k l = number_of l.label (drop l.k l.columns) (drop l.k l.numbers) ≡ number_of l.label l.columns l.numbers
