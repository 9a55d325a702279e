-- The forms that the words of a line may have.
use Rattle.std.specs.Prelude.{ℕ, zero, suc, Bool, true, false, ◌&&◌, [], ◌∷◌, bytes_eq, slice_index_or}
use Rattle.pc_text.specs.Bytes.{Bytes}
use Rattle.pc_text.specs.Digits.{natural_of}
use Rattle.pc_text.specs.Words.{Words, is_empty, is_count, is_numeral}

-- exactly so many numerals
abbrev pub are_numerals : ℕ → Words → Bool
are_numerals zero ws = is_empty ws
are_numerals (suc n) [] = false
are_numerals (suc n) (w ∷ ws) = is_numeral w && are_numerals n ws

-- exactly so many counts
abbrev pub are_counts : ℕ → Words → Bool
are_counts zero ws = is_empty ws
are_counts (suc n) [] = false
are_counts (suc n) (w ∷ ws) = is_count w && are_counts n ws

-- pairs of an index and a multiplier
abbrev pub are_pairs : Words → Bool
are_pairs [] = true
are_pairs (i ∷ []) = false
are_pairs (i ∷ m ∷ ws) = is_count i && is_numeral m && are_pairs ws

-- a name, and behind it words that pass the test
abbrev pub is_named : Bytes → (Words → Bool) → Words → Bool
is_named name p [] = false
is_named name p (w ∷ ws) = bytes_eq w name && p ws

-- just these words
abbrev pub is_just : Words → Words → Bool
is_just [] ws = is_empty ws
is_just (name ∷ names) ws = is_named name (is_just names) ws

-- the number of the count at place `i`, where the name of the line has place 0
abbrev pub number_at : ℕ → Words → ℕ
number_at i ws = natural_of (slice_index_or ws i [])
