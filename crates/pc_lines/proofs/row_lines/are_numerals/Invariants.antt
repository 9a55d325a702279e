use Rattle.std.proofs.Common.{◌≡◌, ◌-◌}
use Rattle.pc_lines.specs.Forms.{are_numerals}
use Rattle.pc_lines.proofs.row_lines.are_numerals.Given as goal

abbrev pub invariant-words : goal.invariant-words
invariant-words l = are_numerals (l.count - l.counter) l.words ≡ are_numerals l.count l.fn.words
