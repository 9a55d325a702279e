-- Quotients that are rounded down.
use Rattle.std.proofs.Common.{◌≡◌, ◌∙◌, ℕ, suc, ◌-◌, ◌*◌, ◌/◌, ◌%◌, ◌≤◌, ℤ, pos, negsuc, ◌+ℤ◌, ◌*ℤ◌, neg_ℤ, ◌≤ℤ◌, sym, ap, arith}
use Rattle.std.specs.Prelude.{◌↔◌, unsigned_abs}
use Rattle.std.specs.Int.{int_div_euclid}
use Rattle.std.proofs.Math.Nat.{div-le_self, div-add-mod, mul-suc}
use Rattle.std.proofs.lemmas.Int.{ints, by_lt_z}
use Rattle.std.proofs.lemmas.Nat.{mod_below}
use Rattle.pc_rows.specs.Bounds.{IsWithin}
use Rattle.pc_rows.specs.Linear.{InRange}
use Rattle.pc_rows.proofs.Ring.{mul_add, mul_comm, mul_neg, mul_le, product_not_negative}

-- a quotient is not greater than what is divided
pub quotient_within : (k : ℕ) (c a : ℤ) → pos 1 ≤ℤ a → IsWithin k c → IsWithin k (int_div_euclid c a)
quotient_within k (pos n) (pos m) h fits = let le = div-le_self n m in omega arith
quotient_within k (negsuc n) (pos m) h fits = let le = div-le_self n m in omega arith
quotient_within k (pos n) (negsuc m) h fits = absurd (omega (arith, ints))
quotient_within k (negsuc n) (negsuc m) h fits = absurd (omega (arith, ints))

pub quotient_in_range : (c a : ℤ) → pos 1 ≤ℤ a → InRange c → InRange (int_div_euclid c a)
quotient_in_range c a h fits = let w = quotient_within (unsigned_abs c) c a h (omega arith) in omega arith

-- what is divided is the product of the divisor with the quotient, and a rest below the divisor
rest_of : (k : ℕ) (c : ℤ) → (r : ℕ) × (r ≤ k) × (c ≡ pos (suc k) *ℤ int_div_euclid c (pos (suc k)) +ℤ pos r)
rest_of k (pos n) =
    let below = mod_below n (suc k) (omega arith) in
    let whole = div-add-mod n (suc k) in
    let product : pos (suc k) *ℤ pos (n / suc k) ≡ pos (suc k * (n / suc k)) = omega (arith, ints) in
    (n % suc k, omega arith, omega (arith, ints))
rest_of k (negsuc n) =
    let below = mod_below n (suc k) (omega arith) in
    let whole = div-add-mod n (suc k) in
    let more = mul-suc (suc k) (n / suc k) in
    let product : pos (suc k) *ℤ negsuc (n / suc k) ≡ neg_ℤ (pos (suc k) *ℤ pos (suc (n / suc k))) = mul_neg (pos (suc k)) (pos (suc (n / suc k))) in
    let positive : pos (suc k) *ℤ pos (suc (n / suc k)) ≡ pos (suc k * suc (n / suc k)) = omega (arith, ints) in
    (k - n % suc k, omega arith, omega (arith, ints))

-- for a positive factor the integers that are at least the least one not below -c / a
module _ (k : ℕ) (c x q : ℤ) (rest : (r : ℕ) × (r ≤ k) × (c ≡ pos (suc k) *ℤ q +ℤ pos r)) where
  sum : pos (suc k) *ℤ (x +ℤ q) ≡ pos (suc k) *ℤ x +ℤ pos (suc k) *ℤ q
  sum = mul_add (pos (suc k)) x q

  enough : neg_ℤ q ≤ℤ x → pos 0 ≤ℤ (pos (suc k) *ℤ x +ℤ c)
  enough h =
      let whole = rest.2 in
      let product = product_not_negative (pos (suc k)) (x +ℤ q) (omega (arith, ints)) (omega (arith, ints)) in
      let split = sum in
      omega (arith, ints)

  needed : pos 0 ≤ℤ (pos (suc k) *ℤ x +ℤ c) → neg_ℤ q ≤ℤ x
  needed h = by_lt_z (x +ℤ q) (pos 0)
      (λ low. absurd (
      let whole = rest.2 in
      let few = rest.1 in
      let product = mul_le (suc k) (x +ℤ q) (negsuc 0) (omega (arith, ints)) in
      let one : pos (suc k) *ℤ negsuc 0 ≡ negsuc k = omega (arith, ints) in
      let split = sum in
      omega (arith, ints)))
      (λ high. omega (arith, ints))

pub at_least_exact : (k : ℕ) (c x : ℤ) → (neg_ℤ (int_div_euclid c (pos (suc k))) ≤ℤ x) ↔ (pos 0 ≤ℤ (pos (suc k) *ℤ x +ℤ c))
at_least_exact k c x = let q = int_div_euclid c (pos (suc k)) in (enough k c x q (rest_of k c), needed k c x q (rest_of k c))

-- and for a negative one those that are at most the greatest one not above c / -a
pub at_most_exact : (k : ℕ) (c x : ℤ) → (x ≤ℤ int_div_euclid c (pos (suc k))) ↔ (pos 0 ≤ℤ (negsuc k *ℤ x +ℤ c))
at_most_exact k c x = (
  (λ h. let m = law.0 (omega (arith, ints)) in let e = turned in omega (arith, ints)),
  (λ h. let m = law.1 (let e = turned in omega (arith, ints)) in omega (arith, ints)),
)
  where
    law : (neg_ℤ (int_div_euclid c (pos (suc k))) ≤ℤ neg_ℤ x) ↔ (pos 0 ≤ℤ (pos (suc k) *ℤ neg_ℤ x +ℤ c))
    law = at_least_exact k c (neg_ℤ x)

    turned : negsuc k *ℤ x ≡ pos (suc k) *ℤ neg_ℤ x
    turned = mul_comm (negsuc k) x ∙ mul_neg x (pos (suc k)) ∙ ap neg_ℤ (mul_comm x (pos (suc k))) ∙ sym (mul_neg (pos (suc k)) x)
