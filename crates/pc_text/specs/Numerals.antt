-- Canonical numerals: how numbers are written, and how they are read.
use Rattle.std.specs.Prelude.{◌≡◌, ◌≤◌, ℕ, Bool, zero, suc, ◌+◌, ◌==◌, nat_eq, nat_le, nat_lt, ◌&&◌, if◌then◌else◌, [], ◌∷◌, ◌++◌, length, take, drop, map, false, ◌⊎◌, Option, Some, None, ℤ, pos, negsuc, neg_ℤ, unsigned_abs}
use Rattle.std.specs.Int.Digits.{digits_of}
use Rattle.pc_text.specs.declared.token.TheConstants.{LARGEST}
use Rattle.pc_text.specs.Bytes.{Bytes}
use Rattle.pc_text.specs.Digits.{natural_of}
use Rattle.pc_text.specs.Lexemes.{in_number, EachPasses}
use Rattle.pc_text.specs.Longest.{run}

-- a digit from 1 to 9, and further digits
abbrev pub IsPositive : Bytes → Type 0
IsPositive [] = ⊥
IsPositive (b ∷ w) = (49 ≤ b) × (b ≤ 57) × EachPasses in_number w

-- canonical numerals: 0, or a positive number with an optional - before it
abbrev pub IsNumeral : Bytes → Type 0
IsNumeral w = (w ≡ 48 ∷ []) ⊎ IsPositive w ⊎ ((v : Bytes) × (w ≡ 45 ∷ v) × IsPositive v)

-- the number that a numeral stands for
abbrev pub integer_of : Bytes → ℤ
integer_of [] = pos 0
integer_of (b ∷ w) = if nat_eq b 45 then neg_ℤ (pos (natural_of w)) else pos (natural_of (b ∷ w))

-- the digits of a number from 0 on
abbrev pub natural_text : ℕ → Bytes
natural_text n = if n == 0 then 48 ∷ [] else map (λ d. 48 + d) (digits_of 10 n)

-- the canonical numeral of a number
unfoldable pub numeral : ℤ → Bytes
numeral (pos n) = natural_text n
numeral (negsuc n) = 45 ∷ natural_text (suc n)

-- a number that is read: at most LARGEST from 0
abbrev pub IsInRange : ℤ → Type 0
IsInRange n = unsigned_abs n ≤ LARGEST

-- the same as a test
abbrev pub is_in_range : ℤ → Bool
is_in_range n = nat_le (unsigned_abs n) LARGEST

-- a front of a text that is a canonical numeral, and no longer front is one
pub record IsLongestNumeral (w b : Bytes) : Type 0 where
  pub rest : Bytes
  pub split : b ≡ w ++ rest
  pub canonical : IsNumeral w
  pub longest : (v s : Bytes) → v ++ s ≡ b → IsNumeral v → length v ≤ length w

-- what is read at an offset: the number of the longest numeral there, if it is in range, and the offset behind it
abbrev pub Reads : Bytes → ℕ → Option (ℤ × ℕ) → Type 0
Reads s at None = (w : Bytes) → IsLongestNumeral w (drop at s) → IsInRange (integer_of w) → ⊥
Reads s at (Some x) = (w : Bytes) × IsLongestNumeral w (drop at s) × (w ≡ numeral x.0) × IsInRange x.0 × (x.1 ≡ at + length w)

-- no digit comes next
abbrev pub NoDigitNext : Bytes → Type 0
NoDigitNext [] = Unit {0}
NoDigitNext (b ∷ w) = in_number b ≡ false

-- ---- the same as functions

-- how long the longest front is that is a positive number, 0 where none is
abbrev pub positive_len : Bytes → ℕ
positive_len [] = 0
positive_len (b ∷ r) = if nat_le 49 b && nat_le b 57 then suc (run in_number r) else 0

-- with the sign before it
abbrev pub signed_len : ℕ → ℕ
signed_len zero = 0
signed_len (suc n) = suc (suc n)

-- how long the longest front is that is a numeral, 0 where none is
abbrev pub numeral_len : Bytes → ℕ
numeral_len [] = 0
numeral_len (b ∷ r) = if nat_eq b 48 then 1 else (if nat_eq b 45 then signed_len (positive_len r) else positive_len (b ∷ r))

-- a number, if it is in range, with the offset behind it
abbrev pub in_range : ℤ → ℕ → Option (ℤ × ℕ)
in_range n end = if nat_lt LARGEST (unsigned_abs n) then None else Some (n, end)

abbrev pub read_by : ℕ → ℕ → Bytes → Option (ℤ × ℕ)
read_by zero at b = None
read_by (suc n) at b = in_range (integer_of (take (suc n) b)) (at + suc n)

-- the number that is read at an offset
abbrev pub read_at : Bytes → ℕ → Option (ℤ × ℕ)
read_at s at = read_by (numeral_len (drop at s)) at (drop at s)
