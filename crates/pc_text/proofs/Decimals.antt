-- Decimal numerals are digits, at least one, and tell their number.
use Rattle.std.proofs.Common.{◌≡◌, ◌∙◌, ℕ, zero, suc, ◌+◌, ◌<◌, ◌≤◌, eqb, List, [], ◌∷◌, length, map, sym, ap, ℤ, pos, arith}
use Rattle.std.specs.Int.Digits.{digits_of, AllBelowBase}
use Rattle.std.specs.List.{AllByRecursion}
use Rattle.std.proofs.lemmas.Bool.{cond-false, ne_eqb}
use Rattle.std.proofs.lemmas.Int.Digits.{all_below_base_digits_of}
use Rattle.pc_text.specs.Bytes.{Bytes}
use Rattle.pc_text.specs.Numerals.{numeral, integer_of}
use Rattle.pc_text.proofs.NumeralLengths.{numeral_some}
use Rattle.pc_text.proofs.NumeralTexts.{numeral_is, integer_numeral}
use Rattle.pc_text.proofs.Splits.{Begins}

abbrev pub IsDigit : ℕ → Type 0
IsDigit b = (48 ≤ b) × (b ≤ 57)

-- the numeral of a number from 0 on
abbrev pub decimal : ℕ → Bytes
decimal n = numeral (pos n)

-- a number over 0 is written by its digits
by_digits : (n : ℕ) → 0 < n → decimal n ≡ map (λ d. 48 + d) (digits_of 10 n)
unfolding numeral
by_digits n some = cond-false (eqb n 0) (48 ∷ []) (map (λ d. 48 + d) (digits_of 10 n)) (ne_eqb n 0 (λ e. absurd (omega arith)))

digit_texts : (ds : List ℕ) → AllBelowBase 10 ds → AllByRecursion IsDigit (map (λ d. 48 + d) ds)
digit_texts [] below = tt
digit_texts (d ∷ ds) below = ((omega arith, omega (arith, below.0)), digit_texts ds below.1)

pub decimal_digits : (n : ℕ) → AllByRecursion IsDigit (decimal n)
unfolding numeral
decimal_digits zero = ((omega arith, omega arith), tt)
decimal_digits (suc n) =
    let some : 0 < suc n = omega arith in
    rw (by_digits (suc n) some) (digit_texts (digits_of 10 (suc n)) (all_below_base_digits_of 10 (suc n) (omega arith)))

begins_with_digit : (bs : Bytes) → AllByRecursion IsDigit bs → 0 < length bs → Begins IsDigit bs
begins_with_digit [] digits some = absurd (omega arith)
begins_with_digit (b ∷ bs) digits some = digits.0

pub decimal_begins : (n : ℕ) → Begins IsDigit (decimal n)
decimal_begins n = begins_with_digit (decimal n) (decimal_digits n) (numeral_some (decimal n) (numeral_is (pos n)))

pub same_pos : (m n : ℕ) → ◌≡◌ {A = ℤ} (pos m) (pos n) → m ≡ n
same_pos m n e = cc

-- two numbers have two numerals
pub decimal_injective : (m n : ℕ) → decimal m ≡ decimal n → m ≡ n
decimal_injective m n e = same_pos m n (sym (integer_numeral (pos m)) ∙ ap integer_of e ∙ integer_numeral (pos n))
