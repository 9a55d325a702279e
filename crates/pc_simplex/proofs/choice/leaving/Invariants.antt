use Rattle.std.proofs.Common.{◌≡◌, drop}
use Rattle.pc_simplex.specs.Choosing.{first_from, first_of, leaving_each}
use Rattle.pc_simplex.proofs.choice.leaving.Given as goal

abbrev pub invariant-loop-i : goal.invariant-loop-i
invariant-loop-i l = first_from l.i l.best (leaving_each (drop l.i l.lines)) ≡ first_of (leaving_each l.lines)
