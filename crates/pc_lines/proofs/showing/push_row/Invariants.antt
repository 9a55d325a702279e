use Rattle.std.proofs.Common.{◌≡◌, ◌++◌}
use Rattle.pc_lines.specs.Texts.{row_line}
use Rattle.pc_text.proofs.WordLists.{joined}
use Rattle.pc_lines.proofs.showing.push_row.Given as goal

abbrev pub invariant-variables : goal.invariant-variables
invariant-variables l = l.text ≡ l.fn.text ++ joined (row_line l.v l.r)
