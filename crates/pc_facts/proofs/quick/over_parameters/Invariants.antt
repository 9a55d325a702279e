use Rattle.std.proofs.Common.{◌≡◌, ◌++◌, drop}
use Rattle.pc_facts.specs.Quick.{over_parameters}
use Rattle.pc_facts.proofs.quick.over_parameters.Given as goal

abbrev pub invariant-loop-r : goal.invariant-loop-r
invariant-loop-r l = l.over ++ over_parameters l.params (drop l.r-index l.rows) ≡ over_parameters l.params l.rows
