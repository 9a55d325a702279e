-- A number of 0 in a column of 0 stays 0, whatever is pivoted.
use Rattle.std.proofs.Common.{◌≡◌, ◌/◌, ◌%◌, ℕ, suc, ◌&&◌, ℤ, pos, negsuc, neg_ℤ, ◌*ℤ◌, ◌-ℤ◌, refl, sym, ◌∙◌, ap, arith, Bool, true, false}
use Rattle.std.specs.Prelude.{int_div, int_rem}
use Rattle.std.proofs.Math.IntN.{*ℤ-zero}
use Rattle.pc_rows.specs.Linear.{in_range, is_zero}
use Rattle.pc_rows.proofs.Lists.{zero_is}
use Rattle.pc_simplex.specs.Values.{Pivot}
use Rattle.pc_simplex.specs.Pivoting.{entry, is_up, signed, cell, cell_fits, number_after, number_fits}

nothing_rem : (d : ℤ) → int_rem (pos 0) d ≡ pos 0
nothing_rem (pos n) = let e : 0 % n ≡ 0 = omega arith in ap pos e
nothing_rem (negsuc n) = let e : 0 % suc n ≡ 0 = omega arith in ap pos e

nothing_div : (d : ℤ) → int_div (pos 0) d ≡ pos 0
nothing_div (pos n) = let e : 0 / n ≡ 0 = omega arith in ap pos e
nothing_div (negsuc n) = let e : 0 / suc n ≡ 0 = omega arith in ap (λ (m : ℕ). neg_ℤ (pos m)) e

signed_nothing : (up : Bool) → signed up (pos 0) ≡ pos 0
signed_nothing true = refl
signed_nothing false = refl

nothing_signed : (n d : ℤ) (up : Bool) → n ≡ pos 0 → signed up (int_div n d) ≡ pos 0
nothing_signed n d up e = ap (λ (z : ℤ). signed up (int_div z d)) e ∙ ap (signed up) (nothing_div d) ∙ signed_nothing up

all_five : (a b c d e : Bool) → a ≡ true → b ≡ true → c ≡ true → d ≡ true → e ≡ true → (a && b && c && d && e) ≡ true
all_five true true true true true ha hb hc hd he = refl
all_five false b c d e ha hb hc hd he = cc
all_five true false c d e ha hb hc hd he = cc
all_five true true false d e ha hb hc hd he = cc
all_five true true true false e ha hb hc hd he = cc
all_five true true true true false ha hb hc hd he = cc

nothing_changes : (p : Pivot) (b x y : ℤ) → is_zero x ≡ true → is_zero y ≡ true → (cell_fits p b x y ≡ true) × (x ≡ cell p b x y)
nothing_changes p b x y ex ey =
    let x0 = zero_is x ex in
    let y0 = zero_is y ey in
    let left : entry p *ℤ x ≡ pos 0 = ap (λ (z : ℤ). entry p *ℤ z) x0 ∙ *ℤ-zero (entry p) in
    let right : b *ℤ y ≡ pos 0 = ap (λ (z : ℤ). b *ℤ z) y0 ∙ *ℤ-zero b in
    let both : entry p *ℤ x -ℤ b *ℤ y ≡ pos 0 = ap (λ (z : ℤ). z -ℤ b *ℤ y) left ∙ ap (λ (z : ℤ). pos 0 -ℤ z) right in
    let n = entry p *ℤ x -ℤ b *ℤ y in (
      all_five (in_range (entry p *ℤ x)) (in_range (b *ℤ y)) (in_range n) (is_zero (int_rem n p.denominator)) (in_range (int_div n p.denominator))
          (ap in_range left) (ap in_range right) (ap in_range both)
          (ap (λ (z : ℤ). is_zero (int_rem z p.denominator)) both ∙ ap is_zero (nothing_rem p.denominator))
          (ap (λ (z : ℤ). in_range (int_div z p.denominator)) both ∙ ap in_range (nothing_div p.denominator)),
      x0 ∙ sym (nothing_signed n p.denominator (is_up p) both),
    )

signed_same : (up : Bool) (x : ℤ) → x ≡ pos 0 → x ≡ signed up x
signed_same up x e = e ∙ sym (signed_nothing up) ∙ ap (signed up) (sym e)

pub nothing_after : (p : Pivot) (b : ℤ) (here : Bool) (x y : ℤ) → is_zero x ≡ true → is_zero y ≡ true → (number_fits p b here x y ≡ true) × (x ≡ number_after p b here x y)
nothing_after p b true x y ex ey = (refl, signed_same (is_up p) x (zero_is x ex))
nothing_after p b false x y ex ey = nothing_changes p b x y ex ey
