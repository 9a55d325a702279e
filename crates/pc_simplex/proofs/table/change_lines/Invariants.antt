use Rattle.std.proofs.Common.{◌≡◌, ◌++◌, take, drop}
use Rattle.pc_simplex.specs.Pivoting.{lines_after, lines_fit}
use Rattle.pc_simplex.proofs.table.change_lines.Given as goal

abbrev pub invariant-loop-i : goal.invariant-loop-i
invariant-loop-i l = record {
  rest : take l.i l.lines ++ lines_after l.pivot l.label l.r l.i (drop l.i l.lines) ≡ lines_after l.pivot l.label l.r 0 l.initial.lines;
  fits : lines_fit l.pivot l.r l.i (drop l.i l.lines) ≡ lines_fit l.pivot l.r 0 l.initial.lines;
}
