use Rattle.std.proofs.Common.{◌≡◌, ◌++◌, drop}
use Rattle.pc_lower.specs.Annotation.{no_rows}
use Rattle.pc_lower.proofs.annotation.no_rows.Given as goal

abbrev pub invariant-loop-p : goal.invariant-loop-p
invariant-loop-p l = l.a ++ no_rows (drop l._p l.g.points) ≡ no_rows l.g.points
