-- Digits only make a number greater.
use Rattle.std.proofs.Common.{◌≡◌, ◌≤◌, ◌<◌, ℕ, suc, ◌+◌, ◌*◌, ◌-◌, [], ◌∷◌, length, drop, get_or, subst, sym, arith, drop-cons}
use Rattle.pc_text.specs.declared.token.TheConstants.{LARGEST}
use Rattle.pc_text.specs.Bytes.{Bytes}
use Rattle.pc_text.specs.Digits.{digits_from}

pub grows : (n : ℕ) (w : Bytes) → n ≤ digits_from n w
grows n [] = omega arith
grows n (b ∷ w) = let more = grows (10 * n + (b - 48)) w in omega arith

-- once past the limit, always past it
pub past : (s : Bytes) (i n : ℕ) → i < length s → digits_from 0 s ≡ digits_from n (drop i s) → LARGEST < 10 * n + (get_or s i 0 - 48) → LARGEST < digits_from 0 s
past s i n h e m =
    let first = drop-cons s i 0 h in
    let more : 10 * n + (get_or s i 0 - 48) ≤ digits_from n (drop i s) =
    subst (λ z. 10 * n + (get_or s i 0 - 48) ≤ digits_from n z) (sym first) (grows (10 * n + (get_or s i 0 - 48)) (drop (suc i) s)) in
    omega arith
