use Rattle.std.proofs.Common.{◌≡◌, drop, not}
use Rattle.std.specs.List.{position_from}
use Rattle.pc_rows.specs.Linear.{is_zero}
use Rattle.pc_rows.specs.Totals.{first_variable}
use Rattle.pc_rows.proofs.totals.first_variable.Given as goal

abbrev pub invariant-loop-v : goal.invariant-loop-v
invariant-loop-v l = position_from (λ c. not (is_zero c)) l.v (drop l.v l.coefficients) ≡ first_variable l.coefficients
