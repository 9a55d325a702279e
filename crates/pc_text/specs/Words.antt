-- The words of a line, and the numerals among them.
use Rattle.std.specs.Prelude.{ℕ, ◌-◌, ◌^◌, min, nat_eq, nat_le, Bool, true, false, ◌&&◌, if◌then◌else◌, List, [], ◌∷◌, bytes_eq, Option, Some, None}
use Rattle.std.specs.Borrow.{Bor}
use Rattle.std.specs.List.{list_all, slice_split}
use Rattle.pc_text.specs.declared.numerals.Word.{Word}
use Rattle.pc_text.specs.declared.numerals.Word.TheVariants as word
use Rattle.pc_text.specs.Bytes.{Bytes}
use Rattle.pc_text.specs.Digits.{natural_of}
use Rattle.pc_text.specs.Lexemes.{in_number}
use Rattle.pc_text.specs.Numerals.{IsInRange, integer_of, is_in_range}

abbrev pub Words : Type 0
Words = List Bytes

abbrev pub is_space : ℕ → Bool
is_space b = nat_eq b 32

-- the words of a line: each space parts two of them
abbrev pub words : Bytes → Words
words line = slice_split is_space line

abbrev pub is_empty : {A : Type 0} → List A → Bool
is_empty [] = true
is_empty (x ∷ xs) = false

-- the words behind the name of a line
abbrev pub behind : Bytes → Words → Option Words
behind name [] = None
behind name (w ∷ ws) = if bytes_eq w name then Some ws else None

-- ---- numerals

-- a digit from 1 to 9, and further digits
abbrev pub is_positive : Bytes → Bool
is_positive [] = false
is_positive (b ∷ w) = nat_le 49 b && nat_le b 57 && list_all in_number w

-- a canonical numeral without a sign: 0, or a positive number
abbrev pub is_count : Bytes → Bool
is_count [] = false
is_count (b ∷ w) = if nat_eq b 48 then is_empty w else is_positive (b ∷ w)

-- a canonical numeral: a count, or a positive number behind a `-`
abbrev pub is_numeral : Bytes → Bool
is_numeral [] = false
is_numeral (b ∷ w) = if nat_eq b 45 then is_positive w else is_count (b ∷ w)

-- what a word says as a numeral
abbrev pub word_of : Bytes → Word
word_of w = if is_numeral w then (if is_in_range (integer_of w) then word.Number (integer_of w) else word.Past) else word.Other

-- ---- the same for the code, which keeps no number past its words

-- the words of what follows a space, if one was there
abbrev pub words_left : Option (Bor Bytes) → Words
words_left None = []
words_left (Some rest) = words rest.now

-- the number of a count, or the greatest number of the code where that is less
abbrev pub count_of : Bytes → Option ℕ
count_of w = if is_count w then Some (min (natural_of w) (2 ^ 32 - 1)) else None

-- a number that a word says is in range
abbrev pub IsFit : Word → Type 0
IsFit word.Other = Unit {0}
IsFit word.Past = Unit {0}
IsFit (word.Number z) = IsInRange z
