use Rattle.std.proofs.Common.{◌≡◌, ◌++◌, drop}
use Rattle.std.specs.List.{list_all}
use Rattle.pc_rows.specs.Joins.{is_covered}
use Rattle.pc_lower.proofs.steady.all_covered.Given as goal

abbrev pub invariant-loop-i : goal.invariant-loop-i
invariant-loop-i l = list_all (λ x. is_covered x (l.a ++ l.b)) (drop l.i l.rows) ≡ list_all (λ x. is_covered x (l.a ++ l.b)) l.rows
