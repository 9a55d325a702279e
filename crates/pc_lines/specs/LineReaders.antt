-- What a line says, read word by word.
use Rattle.std.specs.Prelude.{ℕ, zero, suc, ◌+◌, nat_le, nat_lt, ℤ, Bool, not, ◌&&◌, if◌then◌else◌, List, [], ◌∷◌, ◌++◌, Option, Some, None, Result, Ok, Err}
use Rattle.pc_rows.specs.declared.proof.Part.{Part}
use Rattle.pc_rows.specs.Linear.{Linear, is_zero, of_constant, with_coefficient}
use Rattle.pc_rows.specs.Evidence.{Proof}
use Rattle.pc_text.specs.Digits.{natural_of}
use Rattle.pc_text.specs.Numerals.{integer_of}
use Rattle.pc_lines.specs.declared.fault.CertFault.{CertFault}
use Rattle.pc_lines.specs.declared.fault.CertFault.TheVariants as fault
use Rattle.pc_text.specs.declared.numerals.Word.{Word}
use Rattle.pc_text.specs.declared.numerals.Word.TheVariants as word
use Rattle.pc_text.specs.Words.{Words, is_empty, is_count, is_numeral, word_of}
use Rattle.pc_lines.specs.Forms.{are_numerals, are_pairs}
use Rattle.pc_lines.specs.Kinds.{part_keeps}
use Rattle.pc_lines.specs.Readers.{◌>>=◌}

-- the fault of a line with a number that breaks a rule, by whether the words behind it have their form
abbrev pub broken : Bool → ℕ → CertFault
broken has_form n = if has_form then fault.Number n else fault.Form n

abbrev pub number_by : Word → Bool → ℕ → Words → Result (ℤ × Words) CertFault
number_by (word.Number z) has_form n ws = Ok (z, ws)
number_by word.Past has_form n ws = Err (broken has_form n)
number_by word.Other has_form n ws = Err (fault.Form n)

-- the next number of line `n`, behind which so many numerals are to stand
abbrev pub next_number : ℕ → ℕ → Words → Result (ℤ × Words) CertFault
next_number behind n [] = Err (fault.Form n)
next_number behind n (w ∷ ws) = number_by (word_of w) (are_numerals behind ws) n ws

-- the row with the next numbers of line `n` as its coefficients, at so many variables from variable `v` on
abbrev pub row_from : ℕ → ℕ → ℕ → Linear → Words → Result Linear CertFault
row_from n v zero r ws = if is_empty ws then Ok r else Err (fault.Form n)
row_from n v (suc k) r ws = do
  x ← next_number k n ws
  row_from n (v + 1) k (with_coefficient r v x.0) x.1

abbrev pub row_of : ℕ → ℕ → Words → Result Linear CertFault
row_of v n ws = do
  x ← next_number v n ws
  row_from n 0 v (of_constant x.0) x.1

-- the goal's multiplier in line `n`
abbrev pub goal_of : ℕ → Words → Result (ℤ × Words) CertFault
goal_of n [] = Err (fault.Form n)
goal_of n (w ∷ ws) = number_by (word_of w) (are_pairs ws) n ws

-- the part of an index, which names one of so many premises from number `least` on, and a multiplier; nothing where it breaks a rule
abbrev pub part_of : ℕ → ℕ → ℕ → Word → Option Part
part_of premises least i (word.Number z) = if nat_le least i && nat_lt i premises && not (is_zero z) then Some (record { index = i; multiplier = z }) else None
part_of premises least i word.Past = None
part_of premises least i word.Other = None

-- the next part of line `n`, if one is left
abbrev pub next_part : ℕ → ℕ → ℕ → Words → Result (Option Part × Words) CertFault
next_part premises n least [] = Ok (None, [])
next_part premises n least (i ∷ []) = Err (fault.Form n)
next_part premises n least (i ∷ m ∷ ws) =
    if is_count i && is_numeral m then (if part_keeps premises least i m then Ok (Some (record { index = natural_of i; multiplier = integer_of m }), ws) else Err (broken (are_pairs ws) n))
    else Err (fault.Form n)

-- the parts so far, and those of the words that are left
abbrev pub parts_from : ℕ → ℕ → ℕ → List Part → Words → Result (List Part) CertFault
parts_from premises n least ps [] = Ok ps
parts_from premises n least ps (i ∷ []) = Err (fault.Form n)
parts_from premises n least ps (i ∷ m ∷ ws) =
    if is_count i && is_numeral m then (if part_keeps premises least i m then parts_from premises n (natural_of i + 1) (ps ++ record { index = natural_of i; multiplier = integer_of m } ∷ []) ws else Err (broken (are_pairs ws) n))
    else Err (fault.Form n)

abbrev pub proof_of : ℕ → ℕ → Words → Result Proof CertFault
proof_of premises n ws = do
  x ← goal_of n ws
  ps ← parts_from premises n 0 [] x.1
  Ok (record { goal = x.0; parts = ps })
