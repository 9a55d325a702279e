-- The quotient of a multiple.
use Rattle.std.proofs.Common.{◌≡◌, ℕ, zero, suc, ◌+◌, ◌*◌, ◌/◌, ◌%◌, ◌<◌, ℤ, pos, negsuc, neg_ℤ, ◌*ℤ◌, ◌≤ℤ◌, refl, sym, ◌∙◌, ap, arith}
use Rattle.std.specs.Prelude.{int_div, int_rem}
use Rattle.std.proofs.lemmas.Int.{ints}
use Rattle.std.proofs.lemmas.Nat.{div-mul-add, mod-mul-add}

nat_div : (a d : ℕ) → 0 < d → (a * d) / d ≡ a
nat_div a d lt = let e : a * d ≡ a * d + 0 = omega arith in ap (λ (n : ℕ). n / d) e ∙ div-mul-add a d 0 lt

nat_rem : (a d : ℕ) → 0 < d → (a * d) % d ≡ 0
nat_rem a d lt = let e : a * d ≡ a * d + 0 = omega arith in ap (λ (n : ℕ). n % d) e ∙ mod-mul-add a d 0 lt

opposite_div : (m d : ℕ) → int_div (neg_ℤ (pos m)) (pos d) ≡ neg_ℤ (pos (m / d))
opposite_div zero d = let e : 0 / d ≡ 0 = omega arith in ap pos e ∙ sym (ap (λ (n : ℕ). neg_ℤ (pos n)) e)
opposite_div (suc m) d = refl

opposite_rem : (m d : ℕ) → int_rem (neg_ℤ (pos m)) (pos d) ≡ neg_ℤ (pos (m % d))
opposite_rem zero d = let e : 0 % d ≡ 0 = omega arith in ap pos e ∙ sym (ap (λ (n : ℕ). neg_ℤ (pos n)) e)
opposite_rem (suc m) d = refl

-- it is whole, and the number that the divisor is multiplied by
pub multiple_divides : (n q d : ℤ) → pos 1 ≤ℤ d → q *ℤ d ≡ n → (int_rem n d ≡ pos 0) × (int_div n d ≡ q)
multiple_divides n q (negsuc d) least e = absurd (omega (arith, ints))
multiple_divides n (pos a) (pos d) least e =
    let lt : 0 < d = omega (arith, ints) in (
      ap (λ (z : ℤ). int_rem z (pos d)) (sym e) ∙ ap pos (nat_rem a d lt),
      ap (λ (z : ℤ). int_div z (pos d)) (sym e) ∙ ap pos (nat_div a d lt),
    )
multiple_divides n (negsuc a) (pos d) least e =
    let lt : 0 < d = omega (arith, ints) in (
      ap (λ (z : ℤ). int_rem z (pos d)) (sym e) ∙ opposite_rem (suc a * d) d ∙ ap (λ (m : ℕ). neg_ℤ (pos m)) (nat_rem (suc a) d lt),
      ap (λ (z : ℤ). int_div z (pos d)) (sym e) ∙ opposite_div (suc a * d) d ∙ ap (λ (m : ℕ). neg_ℤ (pos m)) (nat_div (suc a) d lt),
    )
