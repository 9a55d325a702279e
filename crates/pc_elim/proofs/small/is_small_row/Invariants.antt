use Rattle.std.proofs.Common.{◌≡◌, drop}
use Rattle.std.specs.List.{list_all}
use Rattle.pc_elim.specs.Small.{is_small}
use Rattle.pc_elim.proofs.small.is_small_row.Given as goal

abbrev pub invariant-loop-v : goal.invariant-loop-v
invariant-loop-v l = list_all is_small (drop l.v l.r.coefficients) ≡ list_all is_small l.r.coefficients
