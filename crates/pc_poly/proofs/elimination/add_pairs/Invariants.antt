use Rattle.std.proofs.Common.{◌∷◌}
use Rattle.pc_poly.specs.Rows.{Adds}
use Rattle.pc_poly.proofs.elimination.add_pairs.Given as goal

abbrev pub invariant-loop-i : goal.invariant-loop-i
invariant-loop-i l = Adds l.x (l.p ∷ l.rows) l.initial.out l.out
