use Rattle.std.proofs.Common.{◌≡◌, ◌++◌, drop}
use Rattle.pc_poly.proofs.member.items_of.Given as goal

abbrev pub invariant-loop-i : goal.invariant-loop-i
invariant-loop-i l = l.items ++ drop l.i l.rows ≡ l.rows
