-- The words of a line, one after another, and the line that they make.
use Rattle.std.proofs.Common.{◌≡◌, ◌∙◌, refl, ap, sym, ℕ, ◌+◌, ◌<◌, ◌≤◌, Bool, true, false, not, cond, [], ◌∷◌, ◌++◌, Option, Some, None, Bor, length, take, drop, arith}
use Rattle.std.specs.Prelude.{bytes_eq, codes}
use Rattle.std.specs.List.{position, position_or_len, count_by, join_by, join_with_byte}
use Rattle.std.specs.Option.{is_some}
use Rattle.std.proofs.lemmas.Bool.{ltb-false}
use Rattle.std.proofs.lemmas.List.{append-nil}
use Rattle.std.proofs.lemmas.List.Quantifiers.{position-Some}
use Rattle.std.proofs.lemmas.List.Splits.{slice_split_first, slice_split_none, length-slice_split, join_with_byte-slice_split}
use Rattle.std.proofs.lemmas.List.Sums.{count_by-le-length, position_or_len_is, fails_before_first}
use Rattle.pc_text.specs.Bytes.{Bytes}
use Rattle.pc_text.specs.Words.{Words, is_space, words, words_left, is_empty, behind}

-- up to the first space, and behind it
pub words_first : (b : Bytes) (n : ℕ) → position is_space b ≡ Some n → words b ≡ take n b ∷ words (drop (n + 1) b)
words_first b n e =
    let at = position-Some is_space b n 0 e in
    let is : position_or_len is_space b ≡ n = position_or_len_is is_space b n 0 (omega arith) at.2 (λ _. at.1) in
    let h : position_or_len is_space b < length b = omega arith in
    slice_split_first is_space b 0 h ∙ ap (λ n. take n b ∷ words (drop (n + 1) b)) is

none_by : (t : Bool) (n : ℕ) → cond t (Some n) None ≡ None → t ≡ false
none_by true n e = cc
none_by false n e = refl

-- a line without a space
pub words_alone : (b : Bytes) → position is_space b ≡ None → words b ≡ b ∷ []
words_alone b e =
    let past : length b ≤ position_or_len is_space b = ltb-false (position_or_len is_space b) (length b) (none_by _ (position_or_len is_space b) e) in
    slice_split_none is_space b (λ k d h. fails_before_first is_space b k d (omega arith))

some_by : (ws : Words) (n : ℕ) → length ws ≡ n + 1 → is_empty ws ≡ false
some_by [] n e = absurd (omega arith)
some_by (w ∷ ws) n e = refl

-- a text has a word, which may be empty
words_some : (b : Bytes) → is_empty (words b) ≡ false
words_some b = some_by (words b) (count_by is_space b) (length-slice_split is_space b)

-- no word is left where no text is
pub none_left : (o : Option (Bor Bytes)) (r : Bool) → is_some o ≡ not r → r ≡ is_empty (words_left o)
none_left None true e = refl
none_left None false e = absurd (cc)
none_left (Some rest) true e = absurd (cc)
none_left (Some rest) false e = sym (words_some rest.now)

-- ---- the line that words make

-- words parted by one space each
abbrev pub joined : Words → Bytes
joined ws = join_by (λ w. w) (codes " ") ws

joins : (ws : Words) → join_with_byte 32 ws ≡ joined ws
joins [] = refl
joins (w ∷ []) = sym (append-nil w)
joins (w ∷ v ∷ ws) = ap (λ z. w ++ 32 ∷ z) (joins (v ∷ ws))

-- a line is what its words make
pub line_of_words : (line : Bytes) → joined (words line) ≡ line
line_of_words line = sym (joins (words line)) ∙ join_with_byte-slice_split 32 line

-- ---- how many words a line has

-- no more than it has bytes, and one
pub words_few : (b : Bytes) → length (words b) ≤ length b + 1
words_few b = let long = length-slice_split is_space b in let few = count_by-le-length is_space b in omega arith

behind_by : (t : Bool) (all ws : Words) → cond t (Some all) None ≡ Some ws → all ≡ ws
behind_by true all ws e = cc
behind_by false all ws e = absurd (cc)

behind_one : (name : Bytes) (all ws : Words) (n : ℕ) → length all ≤ n + 1 → behind name all ≡ Some ws → length ws ≤ n
behind_one name [] ws n few e = absurd (cc)
behind_one name (w ∷ all) ws n few e = let same = ap (λ (vs : Words). length vs) (behind_by (bytes_eq w name) all ws e) in omega arith

-- so no more than bytes are behind the name
pub behind_few : (name line : Bytes) (ws : Words) → behind name (words line) ≡ Some ws → length ws ≤ length line
behind_few name line ws e = behind_one name (words line) ws (length line) (words_few line) e
