use Rattle.std.proofs.Common.{◌≡◌, drop}
use Rattle.std.specs.List.{list_any}
use Rattle.pc_breach.specs.Following.{is_same}
use Rattle.pc_breach.proofs.step.has.Given as goal

abbrev pub invariant-loop-i : goal.invariant-loop-i
invariant-loop-i l = list_any (λ x. is_same x l.r) (drop l.i l.rows) ≡ list_any (λ x. is_same x l.r) l.rows
