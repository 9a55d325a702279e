-- Comparisons of fractions by their cross products, and what tests of signs say.
use Rattle.std.proofs.Common.{◌≡◌, ℤ, pos, negsuc, ◌+ℤ◌, ◌*ℤ◌, subst, ◌∙◌, ap, arith, ◌≤ℤ◌, true, false}
use Rattle.std.specs.Prelude.{int_lt}
use Rattle.std.proofs.lemmas.Int.{ints, by_lt_z}
use Rattle.pc_rows.proofs.Ring.{mul_add, mul_comm, mul_assoc, mul_le}
use Rattle.pc_elim.specs.Elimination.{is_positive}

pub cancel : (k a b : ℤ) → pos 1 ≤ℤ k → (k *ℤ a) ≤ℤ (k *ℤ b) → a ≤ℤ b
cancel (negsuc k) a b p h = absurd (omega (arith, ints))
cancel (pos k) a b p h = by_lt_z b a
    (λ lt. let e : (b +ℤ pos 1) ≤ℤ a = omega (arith, ints) in
    let m = mul_le k (b +ℤ pos 1) a e in
    let f = mul_add (pos k) b (pos 1) in absurd (omega (arith, ints)))
    (λ le. le)

swap_three : (x y z : ℤ) → x *ℤ (y *ℤ z) ≡ z *ℤ (y *ℤ x)
swap_three x y z = mul_comm x (y *ℤ z) ∙ ap (λ (n : ℤ). n *ℤ x) (mul_comm y z) ∙ mul_assoc z y x

le_three : (a b c : ℤ) → a ≤ℤ b → b ≤ℤ c → a ≤ℤ c
le_three a b c h g = omega (arith, ints)

-- the comparison of fractions carries on
pub cross : (p a q b r c : ℤ) → pos 1 ≤ℤ b → pos 0 ≤ℤ a → pos 0 ≤ℤ c → (p *ℤ b) ≤ℤ (q *ℤ a) → (q *ℤ c) ≤ℤ (r *ℤ b) → (p *ℤ c) ≤ℤ (r *ℤ a)
cross p (negsuc a) q b r c x y z h g = absurd (omega (arith, ints))
cross p (pos a) q b r (negsuc c) x y z h g = absurd (omega (arith, ints))
cross p (pos a) q b r (pos c) x y z h g =
    let m = mul_le c (p *ℤ b) (q *ℤ pos a) h in
    let n = mul_le a (q *ℤ pos c) (r *ℤ b) g in
    let m2 = subst (λ u. u ≤ℤ (pos c *ℤ (q *ℤ pos a))) (swap_three (pos c) p b) m in
    let m3 = subst (λ u. (b *ℤ (p *ℤ pos c)) ≤ℤ u) (swap_three (pos c) q (pos a)) m2 in
    let n2 = subst (λ u. (pos a *ℤ (q *ℤ pos c)) ≤ℤ u) (swap_three (pos a) r b) n in
    cancel b (p *ℤ pos c) (r *ℤ pos a) x (le_three _ _ _ m3 n2)

pub positive_is : (z : ℤ) → is_positive z ≡ true → pos 1 ≤ℤ z
positive_is z h = grind (arith, ints)

pub below_is : (x y : ℤ) → int_lt x y ≡ true → x ≤ℤ y
below_is x y h = grind (arith, ints)

pub not_below_is : (x y : ℤ) → int_lt x y ≡ false → y ≤ℤ x
not_below_is x y h = grind (arith, ints)
