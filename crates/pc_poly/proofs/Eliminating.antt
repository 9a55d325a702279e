-- Rows from which a variable is eliminated.
use Rattle.std.proofs.Common.{◌≡◌, ◌∙◌, ℕ, zero, suc, List, [], ◌∷◌, get_or, set, slice_get, Some, ℤ, pos, ◌+ℤ◌, ◌*ℤ◌, neg_ℤ, ◌≤ℤ◌, refl, sym, ap, subst, arith}
use Rattle.std.specs.Prelude.{true, int_lt, IfOk, Result}
use Rattle.std.proofs.lemmas.Result.{IfOk-weaker}
use Rattle.std.proofs.lemmas.Int.{ints}
use Rattle.std.proofs.Math.IntN.{zero-*ℤ}
use Rattle.pc_rows.specs.declared.number.Past.{Past}
use Rattle.pc_rows.specs.Linear.{Linear, State, dot, value, Meets, MeetsAll, coefficient, scale_list, scaled_by, is_zero}
use Rattle.pc_rows.proofs.Algebra.{get_or-add_lists, get_or-scale_list}
use Rattle.pc_rows.proofs.Lists.{zero_is}
use Rattle.pc_rows.proofs.Ring.{mul_comm, mul_neg, product_not_negative}
use Rattle.pc_rows.proofs.Values.{value-sum, value-scaled}
use Rattle.pc_flow.proofs.Lists.{each_got}
use Rattle.pc_poly.specs.Rows.{weighed, added, added_fitting, Adds, Eliminates}
use Rattle.pc_poly.proofs.Gathering.{added_each, fitting_each}

-- a row without the variable has the same value whatever value the variable has
dot-free : (cs s : List ℤ) (x : ℕ) (n : ℤ) → get_or cs x (pos 0) ≡ pos 0 → dot cs (set s x n) ≡ dot cs s
dot-free [] s x n h = refl
dot-free (c ∷ cs) [] x n h = refl
dot-free (c ∷ cs) (y ∷ s) zero n h = rw (h, zero-*ℤ n, zero-*ℤ y) refl
dot-free (c ∷ cs) (y ∷ s) (suc x) n h = ap (λ d. c *ℤ y +ℤ d) (dot-free cs s x n h)

pub value_free : (r : Linear) (s : State) (x : ℕ) (n : ℤ) → coefficient r x ≡ pos 0 → value r (set s x n) ≡ value r s
value_free r s x n h = ap (λ d. r.constant +ℤ d) (dot-free r.coefficients s x n h)

pub met_free : (r : Linear) (s : State) (x : ℕ) (n : ℤ) → coefficient r x ≡ pos 0 → Meets s r → Meets (set s x n) r
met_free r s x n h m = subst (λ z. pos 0 ≤ℤ z) (sym (value_free r s x n h)) m

pub without_met : (r : Linear) (s : State) (x : ℕ) (n : ℤ) → is_zero (coefficient r x) ≡ true → Meets s r → Meets (set s x n) r
without_met r s x n h m = met_free r s x n (zero_is (coefficient r x) h) m

-- the variable goes from a pair
weighed_lacks : (x : ℕ) (p n : Linear) → coefficient (weighed x p n) x ≡ pos 0
weighed_lacks x p n =
    let a = coefficient p x in
    let b = coefficient n x in
    get_or-add_lists (scale_list (neg_ℤ b) p.coefficients) (scale_list a n.coefficients) x
    ∙ (let e = get_or-scale_list (neg_ℤ b) p.coefficients x in
    let f = get_or-scale_list a n.coefficients x in
    let g = mul_comm (neg_ℤ b) a in
    let h = mul_neg a b in
    omega (arith, ints))

-- a pair is met where its rows are, whatever value the variable has
pub weighed_met : (x : ℕ) (p n : Linear) (s : State) (m : ℤ) → int_lt (pos 0) (coefficient p x) ≡ true → int_lt (coefficient n x) (pos 0) ≡ true → Meets s p → Meets s n →
    Meets (set s x m) (weighed x p n)
weighed_met x p n s m positive negative g h =
    met_free (weighed x p n) s x m (weighed_lacks x p n)
    (let up : pos 0 ≤ℤ coefficient p x = grind (arith, ints) in
    let down : pos 0 ≤ℤ neg_ℤ (coefficient n x) = grind (arith, ints) in
    let e = value-sum (scaled_by (neg_ℤ (coefficient n x)) p) (scaled_by (coefficient p x) n) s in
    let f = value-scaled (neg_ℤ (coefficient n x)) p s in
    let f2 = value-scaled (coefficient p x) n s in
    let l = product_not_negative (neg_ℤ (coefficient n x)) (value p s) down g in
    let l2 = product_not_negative (coefficient p x) (value n s) up h in
    omega (arith, ints))

pub weighed_fitting : (x : ℕ) (p n : Linear) (r : Result Linear Past) → int_lt (pos 0) (coefficient p x) ≡ true → int_lt (coefficient n x) (pos 0) ≡ true →
    IfOk r (λ y. y ≡ weighed x p n) → IfOk r (λ y. (s : State) (m : ℤ) → MeetsAll s (p ∷ n ∷ []) → Meets (set s x m) y)
weighed_fitting x p n r positive negative h =
    IfOk-weaker r (λ y. y ≡ weighed x p n) (λ y. (s : State) (m : ℤ) → MeetsAll s (p ∷ n ∷ []) → Meets (set s x m) y)
    (λ y e s m all. subst (Meets (set s x m)) (sym e) (weighed_met x p n s m positive negative all.0 all.1.0)) h

-- a row of a list that is met is met
pub met_at : (rows : List Linear) (i : ℕ) (r : Linear) (s : State) → slice_get rows i ≡ Some r → MeetsAll s rows → Meets s r
met_at rows i r s at h = each_got (Meets s) rows i r h at

module _ (x : ℕ) (premises old : List Linear) where
  -- a row that is met whatever value the variable has is added
  pub adds_row : (new : List Linear) (r : Linear) → new ≡ added old r → ((s : State) (n : ℤ) → MeetsAll s premises → Meets (set s x n) r) → Adds x premises old new
  adds_row new r is f = subst (Adds x premises old) (sym is) (λ s n h m. added_each (Meets (set s x n)) old r m (f s n h))

  pub adds_fitting : (new : List Linear) (r : Result Linear Past) → new ≡ added_fitting old r → IfOk r (λ y. (s : State) (n : ℤ) → MeetsAll s premises → Meets (set s x n) y) →
      Adds x premises old new
  adds_fitting new r is f =
      subst (Adds x premises old) (sym is)
      (λ s n h m. fitting_each (Meets (set s x n)) old r m (IfOk-weaker r (λ y. (s : State) (n : ℤ) → MeetsAll s premises → Meets (set s x n) y) (Meets (set s x n)) (λ y g. g s n h) f))

  -- the rows that were added before, and more of them from premises that are met where these are
  pub adds_more : (some new last : List Linear) → ((s : State) → MeetsAll s premises → MeetsAll s some) → Adds x premises old new → Adds x some new last →
      Adds x premises old last
  adds_more some new last f h g s n m k = g s n (f s m) (h s n m k)

pub eliminates_none : (x : ℕ) (rows : List Linear) → Eliminates x rows []
eliminates_none x rows = record { met = λ s n h m. m; none = λ e. refl }

-- one row of the list adds more
pub eliminates_next : (x : ℕ) (rows some old new : List Linear) (i : ℕ) (r : Linear) → slice_get rows i ≡ Some r → ((s : State) → MeetsAll s rows → MeetsAll s some) →
    Eliminates x rows old → Adds x some old new → Eliminates x rows new
eliminates_next x rows some old new i r at f h g = record {
  met = adds_more x rows [] some old new f h.met g;
  none = λ e. absurd (let moved = subst (λ (z : List Linear). slice_get z i ≡ Some r) e at in cc);
}
