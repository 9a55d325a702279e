use Rattle.std.proofs.Common.{◌≡◌, ◌-◌}
use Rattle.pc_lines.specs.LineReaders.{row_from, row_of}
use Rattle.pc_text.specs.Words.{words}
use Rattle.pc_lines.proofs.row_lines.row.Given as goal

abbrev pub invariant-variables : goal.invariant-variables
invariant-variables l = row_from l.number l.v (l.variables - l.v) l.row l.words ≡ row_of l.variables l.number (words l.line)
