use Rattle.std.proofs.Common.{◌≡◌, drop}
use Rattle.pc_simplex.specs.Choosing.{first_from, first_of, entering_each}
use Rattle.pc_simplex.proofs.choice.entering.Given as goal

abbrev pub invariant-loop-k : goal.invariant-loop-k
invariant-loop-k l = first_from l.k l.best (entering_each (drop l.k l.columns) (drop l.k l.numbers)) ≡ first_of (entering_each l.columns l.numbers)
