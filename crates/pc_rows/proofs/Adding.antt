-- Totals that are made part by part: what is made and what is still to come.
use Rattle.std.proofs.Common.{◌≡◌, ℕ, ◌+◌, ◌<◌, ℤ, pos, negsuc, ◌-ℤ◌, ◌*ℤ◌, ◌≤ℤ◌, sym, subst, ap, ◌∙◌, arith, List, ◌∷◌, length, get_or, drop, slice_get, Some}
use Rattle.std.proofs.lemmas.Int.{ints}
use Rattle.std.proofs.lemmas.List.{drop_more}
use Rattle.std.proofs.lemmas.Option.{slice_get_within, get_or_from_slice_get}
use Rattle.pc_rows.specs.declared.proof.Part.{Part}
use Rattle.pc_rows.specs.Linear.{Linear, sum_of, scaled_by}
use Rattle.pc_rows.specs.Shows.{nothing_row, with_parts, PartsFit}
use Rattle.pc_rows.specs.Totals.{TimesFits}
use Rattle.pc_rows.proofs.Ring.{mul_add, add_mul, product_not_negative}

pub drop_at : {A : Type 0} (xs : List A) (i : ℕ) (x : A) → i < length xs → x ≡ get_or xs i x → drop i xs ≡ x ∷ drop (i + 1) xs
drop_at xs i x lt e = drop_more xs i x lt ∙ ap (λ z. z ∷ drop (i + 1) xs) (sym e)

pub drop_got : {A : Type 0} (xs : List A) (i : ℕ) (x : A) → slice_get xs i ≡ Some x → drop i xs ≡ x ∷ drop (i + 1) xs
drop_got xs i x e = drop_at xs i x (slice_get_within xs i x e) (sym (get_or_from_slice_get xs i x x e))

-- a part is added
module _ (premises : List Linear) (ps more : List Part) (p : Part) (r sum new : Linear) (at : ps ≡ p ∷ more) (got : slice_get premises p.index ≡ Some r) where
  named : get_or premises p.index nothing_row ≡ r
  named = get_or_from_slice_get premises p.index r nothing_row got

  pub parts_go_on : (goal : Linear) → new ≡ sum_of sum (scaled_by p.multiplier r) → with_parts premises sum ps ≡ goal → with_parts premises new more ≡ goal
  parts_go_on goal is h =
      ap (λ (z : Linear). with_parts premises z more) (is ∙ ap (λ (z : Linear). sum_of sum (scaled_by p.multiplier z)) (sym named))
      ∙ ap (λ (z : List Part). with_parts premises sum z) (sym at) ∙ h

  opened : PartsFit premises sum ps → TimesFits sum p.multiplier r × PartsFit premises (sum_of sum (scaled_by p.multiplier r)) more
  opened h =
      let g = subst (λ (z : List Part). PartsFit premises sum z) at h in
      subst (λ (z : Linear). TimesFits sum p.multiplier z × PartsFit premises (sum_of sum (scaled_by p.multiplier z)) more) named ((g.0, g.1), g.2)

  pub part_fits : PartsFit premises sum ps → TimesFits sum p.multiplier r
  part_fits h = (opened h).0

  pub parts_fit_on : new ≡ sum_of sum (scaled_by p.multiplier r) → PartsFit premises sum ps → PartsFit premises new more
  parts_fit_on is h = subst (λ (z : Linear). PartsFit premises z more) (sym is) (opened h).1

  pub parts_fit_back : new ≡ sum_of sum (scaled_by p.multiplier r) → TimesFits sum p.multiplier r → PartsFit premises new more → PartsFit premises sum ps
  parts_fit_back is f h =
      let g = subst (λ (z : Linear). PartsFit premises z more) is h in
      let k = subst (λ (z : Linear). TimesFits sum p.multiplier z × PartsFit premises (sum_of sum (scaled_by p.multiplier z)) more) (sym named) (f, g) in
      subst (λ (z : List Part). PartsFit premises sum z) (sym at) (k.0.0, k.0.1, k.1)

pub at_least_one : (a b : ℤ) → pos 1 ≤ℤ a → pos 1 ≤ℤ b → pos 1 ≤ℤ (a *ℤ b)
at_least_one a b x y =
    let h = product_not_negative (a -ℤ pos 1) (b -ℤ pos 1) (omega (arith, ints)) (omega (arith, ints)) in
    let e = mul_add (a -ℤ pos 1) b (negsuc 0) in
    let f = add_mul a (negsuc 0) b in omega (arith, ints)
