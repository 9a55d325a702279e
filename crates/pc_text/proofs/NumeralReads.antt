-- What is read is the longest numeral, if its number is in range.
use Rattle.std.proofs.Common.{◌≡◌, ◌<◌, ℕ, zero, suc, ◌+◌, Bool, true, false, cond, nat_lt, ◌++◌, length, take, drop, Some, None, refl, sym, ap, ◌∙◌, arith, length-take-le, ℤ}
use Rattle.std.specs.Prelude.{unsigned_abs}
use Rattle.std.proofs.Math.Seq.{take-append_seam}
use Rattle.std.proofs.lemmas.Bool.{le-ltb}
use borrow.Author.Tests.{ltb-true, ltb-false}
use Rattle.pc_text.specs.declared.token.TheConstants.{LARGEST}
use Rattle.pc_text.specs.Bytes.{Bytes}
use Rattle.pc_text.specs.Numerals.{integer_of, numeral, IsInRange, Reads, NoDigitNext, numeral_len, in_range, read_by, read_at}
use Rattle.pc_text.proofs.NumeralLengths.{longest_numeral, no_numeral, only_numeral, numeral_to, numeral_some, numeral_within}
use Rattle.pc_text.proofs.NumeralTexts.{numeral_is, integer_numeral, numeral_integer}

found_by : (s : Bytes) (at n : ℕ) → numeral_len (drop at s) ≡ suc n → (c : Bool) → nat_lt LARGEST (unsigned_abs (integer_of (take (suc n) (drop at s)))) ≡ c
    → Reads s at (cond c None (Some (integer_of (take (suc n) (drop at s)), at + suc n)))
found_by s at n e true p = λ w x h.
    let past = ltb-true LARGEST (unsigned_abs (integer_of (take (suc n) (drop at s)))) p in
    let same : unsigned_abs (integer_of w) ≡ unsigned_abs (integer_of (take (suc n) (drop at s))) = ap (λ z. unsigned_abs (integer_of z)) (only_numeral (drop at s) w n e x) in
    omega arith
found_by s at n e false p =
    let w = take (suc n) (drop at s) in
    let x = longest_numeral (drop at s) n e in
    let long : length w ≡ suc n = length-take-le (suc n) (drop at s) (numeral_within (drop at s) n e) in
    (w, x, sym (numeral_integer w x.canonical), ltb-false LARGEST (unsigned_abs (integer_of w)) p, ap (λ m. at + m) (sym long))

reads_by : (s : Bytes) (at n : ℕ) → numeral_len (drop at s) ≡ n → Reads s at (read_by n at (drop at s))
reads_by s at zero e = λ w x h. no_numeral (drop at s) w e x
reads_by s at (suc n) e = found_by s at n e (nat_lt LARGEST (unsigned_abs (integer_of (take (suc n) (drop at s))))) refl

pub reads : (s : Bytes) (at : ℕ) → Reads s at (read_at s at)
reads s at = reads_by s at (numeral_len (drop at s)) refl

back_by : (b : Bytes) (at k : ℕ) (n : ℤ) → 0 < k → take k b ≡ numeral n → IsInRange n → read_by k at b ≡ Some (n, at + k)
back_by b at zero n h e r = absurd (omega arith)
back_by b at (suc k) n h e r = ap (λ w. in_range (integer_of w) (at + suc k)) e ∙ ap (λ m. in_range m (at + suc k)) (integer_numeral n) ∙ rw (le-ltb LARGEST (unsigned_abs n) r) refl

-- the numeral of a number, behind which no digit stands, is read as that number
pub back : (s : Bytes) (at : ℕ) (n : ℤ) (rest : Bytes) → drop at s ≡ numeral n ++ rest → NoDigitNext rest → IsInRange n → read_at s at ≡ Some (n, at + length (numeral n))
back s at n rest e next r =
    let is = numeral_is n in
    ap (λ b. read_by (numeral_len b) at b) e
    ∙ ap (λ k. read_by k at (numeral n ++ rest)) (numeral_to (numeral n) rest is next)
    ∙ back_by (numeral n ++ rest) at (length (numeral n)) n (numeral_some (numeral n) is) (take-append_seam (numeral n) rest) r
