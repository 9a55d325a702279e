use Rattle.std.proofs.Common.{take}
use Rattle.pc_poly.specs.Rows.{IsKept}
use Rattle.pc_poly.proofs.showing.shown.Given as goal

abbrev pub invariant-loop-i : goal.invariant-loop-i
invariant-loop-i l = IsKept (take l.i l.rows) l.other l.kept
