use Rattle.std.proofs.Common.{◌≡◌, ◌++◌, replicate}
use Rattle.pc_runner.proofs.reading.add.Given as goal

abbrev pub invariant-times : goal.invariant-times
invariant-times l = l.choices ≡ l.fn.choices ++ replicate l.counter l.choice
