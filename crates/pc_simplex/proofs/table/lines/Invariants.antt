use Rattle.std.proofs.Common.{◌≡◌, take}
use Rattle.pc_simplex.specs.Turns.{lines_of}
use Rattle.pc_simplex.proofs.table.lines.Given as goal

abbrev pub invariant-loop-i : goal.invariant-loop-i
invariant-loop-i l = l.lines.items ≡ lines_of 0 (take l.i l.s.premises)
