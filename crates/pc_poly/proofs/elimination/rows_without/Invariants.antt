use Rattle.pc_poly.specs.Rows.{Eliminates}
use Rattle.pc_poly.proofs.elimination.rows_without.Given as goal

abbrev pub invariant-loop-i : goal.invariant-loop-i
invariant-loop-i l = Eliminates l.x l.rows l.out
