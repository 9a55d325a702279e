-- The script that a text is, or its fault.
use Rattle.std.specs.Prelude.{ℕ, ◌+◌, ◌==◌, nat_lt, ℤ, pos, int_le, unsigned_abs, Bool, ◌&&◌, if◌then◌else◌, List, [], ◌∷◌, ◌++◌, length, map, replicate, Option, Some, None, Result, Ok, Err, codes}
use Rattle.std.specs.List.{list_all}
use Rattle.pc_text.specs.Bytes.{Bytes}
use Rattle.pc_text.specs.Lines.{lines}
use Rattle.pc_runner.specs.declared.fault.ScriptFault.{ScriptFault}
use Rattle.pc_runner.specs.declared.fault.ScriptFault.TheVariants as fault
use Rattle.pc_runner.specs.declared.script.TheConstants.{CHOICES}
use Rattle.pc_text.specs.Numerals.{integer_of, is_in_range}
use Rattle.pc_text.specs.Words.{Words, words, behind, is_numeral, is_empty}

-- an answer handed on, or its fault
abbrev pub on_ok : {A B : Type 0} → Result A ScriptFault → (A → Result B ScriptFault) → Result B ScriptFault
on_ok (Ok x) f = f x
on_ok (Err e) f = Err e

-- ---- the first line: `entry` and a numeral for each parameter

-- the numbers of numerals in line `n`
abbrev pub values_in : ℕ → Words → Result (List ℤ) ScriptFault
values_in n ws = if list_all is_in_range (map integer_of ws) then Ok (map integer_of ws) else Err (fault.Number n)

abbrev pub as_many : ℕ → List ℤ → Result (List ℤ) ScriptFault
as_many params values = if length values == params then Ok values else Err (fault.Values (length values) params)

abbrev pub entry_by : ℕ → Option Words → Result (List ℤ) ScriptFault
entry_by params None = Err (fault.Form 1)
entry_by params (Some ws) = if list_all is_numeral ws then on_ok (values_in 1 ws) (as_many params) else Err (fault.Form 1)

-- the entry values of a script with so many parameters
abbrev pub entry_of : ℕ → Bytes → Result (List ℤ) ScriptFault
entry_of params line = entry_by params (behind (codes "entry") (words line))

-- ---- further lines: `choose`, a numeral, and how often it is chosen if that is not once

-- the words of the choice and of how often it is made
abbrev pub choice_words : Words → Option (Bytes × Bytes)
choice_words [] = None
choice_words (v ∷ []) = Some (v, codes "1")
choice_words (v ∷ n ∷ ws) = if is_empty ws then Some (v, n) else None

abbrev pub choice_behind : Option Words → Option (Bytes × Bytes)
choice_behind None = None
choice_behind (Some ws) = choice_words ws

-- a number of choices that a script may have
abbrev pub is_count : ℤ → Bool
is_count z = int_le (pos 1) z && int_le z (pos CHOICES)

-- a choice in line `n`, and how often it is made
abbrev pub repeated : ℕ → ℤ → ℤ → Result (ℤ × ℕ) ScriptFault
repeated n value times = if is_in_range value && is_count times then Ok (value, unsigned_abs times) else Err (fault.Number n)

abbrev pub choice_by : ℕ → Option (Bytes × Bytes) → Result (ℤ × ℕ) ScriptFault
choice_by n None = Err (fault.Form n)
choice_by n (Some x) = if is_numeral x.0 && is_numeral x.1 then repeated n (integer_of x.0) (integer_of x.1) else Err (fault.Form n)

abbrev pub choice_of : ℕ → Bytes → Result (ℤ × ℕ) ScriptFault
choice_of n line = choice_by n (choice_behind (behind (codes "choose") (words line)))

-- the choices so far with one that is made again and again
abbrev pub with_choice : ℕ → List ℤ → ℤ × ℕ → Result (List ℤ) ScriptFault
with_choice n found x = if nat_lt CHOICES (length found + x.1) then Err (fault.Many n) else Ok (found ++ replicate x.1 x.0)

-- the choices of lines from line `n` on, with those so far; nothing may follow the last line feed
abbrev pub choices_of : ℕ → List ℤ → List Bytes → Result (List ℤ) ScriptFault
choices_of n found [] = Ok found
choices_of n found (last ∷ []) = if is_empty last then Ok found else Err (fault.Form n)
choices_of n found (line ∷ next ∷ more) = on_ok (choice_of n line) (λ x. on_ok (with_choice n found x) (λ all. choices_of (n + 1) all (next ∷ more)))

-- ---- the text

-- what a script says
pub record Choosing : Type 0 where
  pub entry : List ℤ
  pub choices : List ℤ

-- a script by its lines, each ended by a line feed, and what follows the last
abbrev pub script_by : ℕ → List Bytes → Result Choosing ScriptFault
script_by params (first ∷ next ∷ more) = on_ok (entry_of params first) (λ entry. on_ok (choices_of 2 [] (next ∷ more)) (λ choices. Ok (record { entry = entry; choices = choices })))
script_by params _ = Err (fault.Form 1)

-- the script that a text is for so many parameters, or the fault of its first line at fault
unfoldable pub script_of : ℕ → Bytes → Result Choosing ScriptFault
script_of params b = script_by params (lines b)
