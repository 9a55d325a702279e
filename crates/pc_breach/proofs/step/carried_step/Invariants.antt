use Rattle.std.proofs.Common.{◌≡◌, drop}
use Rattle.pc_breach.specs.Following.{carried_step}
use Rattle.pc_breach.proofs.step.carried_step.Given as goal

abbrev pub invariant-loop-i : goal.invariant-loop-i
invariant-loop-i l = carried_step (record { first = l.first; only = l.only }) l.e l.r (drop l.i l.rows) ≡ carried_step (record { first = l.first; only = l.only }) l.e l.r l.rows
