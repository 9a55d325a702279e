-- A word tells a number of loops exactly where it is the numeral of one.
use Rattle.std.proofs.Common.{◌≡◌, ℕ, ◌^◌, ◌-◌, Bool, true, false, cond, Option, Some, None, min, pos, refl, sym, ap, ◌∙◌, arith}
use Rattle.pc_text.specs.Bytes.{Bytes}
use Rattle.pc_text.specs.Digits.{natural_of}
use Rattle.pc_text.specs.Numerals.{numeral}
use Rattle.pc_text.specs.Words.{count_of, is_count}
use Rattle.pc_text.proofs.NumeralWords.{natural_count, natural_integer, count_is}
use Rattle.pc_gen.specs.Made.{IsLoops}

small : (n : ℕ) → IsLoops n → min n (2 ^ 32 - 1) ≡ n
small n h = omega arith

-- the numeral of a number of loops tells it
pub told : (w : Bytes) (n : ℕ) → IsLoops n → w ≡ numeral (pos n) → count_of w ≡ Some n
told w n h e =
    rw e (rw (natural_count n, natural_integer n) (ap Some (small n h)))

least_of : (v n : ℕ) → IsLoops n → ◌≡◌ {A = Option ℕ} (Some (min v (2 ^ 32 - 1))) (Some n) → v ≡ n
least_of v n h e =
    let same : min v (2 ^ 32 - 1) ≡ n = cc in
    omega arith

telling_by : (w : Bytes) (n : ℕ) (b : Bool) → is_count w ≡ b → IsLoops n → cond b (Some (min (natural_of w) (2 ^ 32 - 1))) None ≡ Some n → w ≡ numeral (pos n)
telling_by w n false is h e = absurd (cc)
telling_by w n true is h e = sym (count_is w is) ∙ ap (λ m. numeral (pos m)) (least_of (natural_of w) n h e)

-- and a word that tells a number of loops is its numeral
pub telling : (w : Bytes) (n : ℕ) → IsLoops n → count_of w ≡ Some n → w ≡ numeral (pos n)
telling w n h e = telling_by w n (is_count w) refl h e

-- a word tells one number
pub told_once : (w : Bytes) (m n : ℕ) → count_of w ≡ Some m → IsLoops n → w ≡ numeral (pos n) → IsLoops m
told_once w m n e h is =
    let same : ◌≡◌ {A = Option ℕ} (Some n) (Some m) = sym (told w n h is) ∙ e in
    let one : n ≡ m = cc in
    rw (sym one) h
