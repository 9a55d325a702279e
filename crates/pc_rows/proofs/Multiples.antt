-- Multiples of rows by a number that is not in range.
use Rattle.std.proofs.Common.{◌≡◌, ◌∙◌, zero, suc, ℤ, pos, negsuc, ◌*ℤ◌, List, [], ◌∷◌, true, refl, sym, subst, arith, lit<, Result, Ok, Err}
use Rattle.std.specs.Prelude.{IsTrue, OkIff}
use Rattle.std.specs.List.{list_all}
use Rattle.std.proofs.lemmas.Bool.{and_parts}
use Rattle.std.proofs.lemmas.Int.{unsigned_abs-mul}
use Rattle.std.proofs.Math.IntN.{*ℤ-zero}
use Rattle.pc_rows.specs.Linear.{Linear, InRange, AllInRange, IsInRange, is_zero, is_number, scale_list, scaled_by}
use Rattle.pc_rows.proofs.Lists.{zero_is}
use Rattle.pc_rows.proofs.Algebra.{same_row}

product_out : (k z : ℤ) → ¬ (InRange k) → InRange (k *ℤ z) → z ≡ pos 0
product_out k (pos zero) out h = refl
product_out k (pos (suc n)) out h = absurd (out (omega (arith, unsigned_abs-mul k (pos (suc n)))))
product_out k (negsuc n) out h = absurd (out (omega (arith, unsigned_abs-mul k (negsuc n))))

products_out : (k : ℤ) (zs : List ℤ) → ¬ (InRange k) → AllInRange (scale_list k zs) → list_all is_zero zs ≡ true
products_out k [] out h = refl
products_out k (z ∷ zs) out h = rw (product_out k z out h.0, products_out k zs out h.1) refl

-- multiples of 0 are 0
module _ (k : ℤ) where
  zeros_are : (zs : List ℤ) → list_all is_zero zs ≡ true → scale_list k zs ≡ zs × AllInRange zs
  zeros_are [] h = (refl, tt)
  zeros_are (z ∷ zs) h =
      let p = and_parts (is_zero z) (list_all is_zero zs) h in
      let e = zero_is z p.0 in
      let more = zeros_are zs p.1 in
      (rw (e, *ℤ-zero k, more.0) refl, (subst InRange (sym e) (lit< tt), more.1))

-- only a row whose numbers are all 0 has a multiple by a number that is not in range, and that is the row
pub multiple_out : {E : Type 0} (result : Result Linear E) (k : ℤ) (r : Linear) → ¬ (InRange k) →
    OkIff result (IsTrue (is_number r) × (r.constant ≡ pos 0)) r → OkIff result (IsInRange (scaled_by k r)) (scaled_by k r)
multiple_out (Ok a) k r out h =
    let zeros = zeros_are k r.coefficients h.0.0 in
    let constant : k *ℤ r.constant ≡ r.constant = rw (h.0.1) (*ℤ-zero k) in
    let same : scaled_by k r ≡ r = same_row (scaled_by k r) r constant zeros.0 in
    (subst IsInRange (sym same) (subst InRange (sym h.0.1) (lit< tt), zeros.1), h.1 ∙ sym same)
multiple_out (Err e) k r out h = λ fits. h (products_out k r.coefficients out fits.1, product_out k r.constant out fits.0)
