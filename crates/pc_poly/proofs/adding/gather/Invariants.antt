use Rattle.std.proofs.Common.{◌≡◌, drop}
use Rattle.pc_poly.specs.Rows.{gathered}
use Rattle.pc_poly.proofs.adding.gather.Given as goal

abbrev pub invariant-loop-i : goal.invariant-loop-i
invariant-loop-i l = gathered l.rows (drop l.i l.more) ≡ gathered l.initial.rows l.more
