use Rattle.std.proofs.Common.{◌≡◌, ◌≤◌, ◌+◌, ◌++◌, length, map, true}
use Rattle.std.specs.List.{list_all}
use Rattle.pc_text.specs.Numerals.{integer_of, is_in_range}
use Rattle.pc_text.specs.Words.{is_numeral}
use Rattle.pc_runner.proofs.reading.values.Given as goal

-- the values so far and those of the words that are left are all values
abbrev pub invariant-words : goal.invariant-words
invariant-words l = (map integer_of l.fn.words ≡ l.values ++ map integer_of l.words) × (list_all is_in_range l.values ≡ true)
    × (list_all is_numeral l.words ≡ true) × (length l.values + length l.words ≤ length l.fn.words)

abbrev pub decreases-words : goal.decreases-words
decreases-words l = length l.words
