use Rattle.std.proofs.Common.{◌≡◌, length}
use Rattle.std.specs.List.{list_all}
use Rattle.pc_text.specs.Words.{is_numeral}
use Rattle.pc_runner.proofs.reading.are_numerals.Given as goal

abbrev pub invariant-words : goal.invariant-words
invariant-words l = list_all is_numeral l.words ≡ list_all is_numeral l.fn.words

abbrev pub decreases-words : goal.decreases-words
decreases-words l = length l.words
