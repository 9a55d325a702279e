-- The value of a row at an entry state, product by product, and the first row that is not met.
use Rattle.std.proofs.Common.{◌≡◌, ◌∙◌, ℕ, zero, suc, ◌+◌, ◌<◌, ◌≤◌, ℤ, pos, ◌+ℤ◌, ◌*ℤ◌, List, [], ◌∷◌, drop, length, get_or, Bool, true, false, cond, refl, sym, ap, subst, arith, Some, None, slice_get}
use Rattle.std.specs.Prelude.{◌↔◌, int_le}
use Rattle.std.specs.Bool.{MatchBool}
use Rattle.std.proofs.lemmas.Int.{ints}
use Rattle.std.proofs.lemmas.List.{drop_all, drop_more}
use Rattle.std.proofs.Math.IntN.{+ℤ_idr}
use Rattle.pc_rows.specs.Linear.{Linear, State, InRange, AllInRange, dot, value, coefficient}
use Rattle.pc_rows.specs.Points.{SumsFit}
use Rattle.pc_rows.proofs.Adding.{drop_got}
use Rattle.pc_breach.specs.Entry.{Evaluates, AreEvaluated, first_broken}

-- the sum of the constant and the first v products
pub record Summed (r : Linear) (s : State) (v : ℕ) (sum : ℤ) : Type 0 where
  pub fits : SumsFit sum (drop v r.coefficients) (drop v s) ↔ Evaluates s r
  pub value : sum +ℤ dot (drop v r.coefficients) (drop v s) ≡ value r s

pub summed_none : (r : Linear) (s : State) → Summed r s 0 r.constant
summed_none r s = record { fits = (λ h. h, λ h. h); value = refl }

module _ (r : Linear) (s : State) (v : ℕ) (sum : ℤ) (there : v < length r.coefficients) (within : v < length s) (so_far : Summed r s v sum) where
  abbrev product : ℤ
  product = coefficient r v *ℤ get_or s v (pos 0)

  opened : Summed r s v sum → ((InRange product × InRange (sum +ℤ product) × SumsFit (sum +ℤ product) (drop (v + 1) r.coefficients) (drop (v + 1) s)) ↔ Evaluates s r) ×
      (sum +ℤ (product +ℤ dot (drop (v + 1) r.coefficients) (drop (v + 1) s)) ≡ value r s)
  opened h =
      let cs = drop_more r.coefficients v (pos 0) there in
      let xs = drop_more s v (pos 0) within in (
        subst (λ (z : List ℤ). SumsFit sum z (get_or s v (pos 0) ∷ drop (v + 1) s) ↔ Evaluates s r) cs (subst (λ (z : List ℤ). SumsFit sum (drop v r.coefficients) z ↔ Evaluates s r) xs h.fits),
        subst (λ (z : List ℤ). sum +ℤ dot z (get_or s v (pos 0) ∷ drop (v + 1) s) ≡ value r s) cs (subst (λ (z : List ℤ). sum +ℤ dot (drop v r.coefficients) z ≡ value r s) xs h.value),
      )

  module _ (a b : ℤ) (at_row : a ≡ coefficient r v) (at_state : b ≡ get_or s v (pos 0)) where
    product_is : product ≡ a *ℤ b
    product_is = ap (λ (z : ℤ). z *ℤ get_or s v (pos 0)) (sym at_row) ∙ ap (λ (z : ℤ). a *ℤ z) (sym at_state)

    pub summed_next : (new : ℤ) → InRange (a *ℤ b) × InRange (sum +ℤ a *ℤ b) → new ≡ sum +ℤ a *ℤ b → Summed r s (v + 1) new
    summed_next new fit is =
        let h = opened so_far in
        let e = h.1 in
        let fits = subst (λ (z : ℤ). InRange z × InRange (sum +ℤ z)) (sym product_is) fit in
        subst (Summed r s (v + 1)) (ap (λ (z : ℤ). sum +ℤ z) product_is ∙ sym is) (record {
          fits = (λ k. h.0.0 (fits.0, fits.1, k), λ k. (h.0.1 k).2);
          value = omega (arith, ints);
        })

    pub summed_refused : (InRange (a *ℤ b) × InRange (sum +ℤ a *ℤ b) → ⊥) → Evaluates s r → ⊥
    summed_refused bad k =
        let h = (opened so_far).0.1 k in
        let fits : InRange product × InRange (sum +ℤ product) = (h.0, h.1) in
        bad (subst (λ (z : ℤ). InRange z × InRange (sum +ℤ z)) product_is fits)

pub summed_all : (r : Linear) (s : State) (v : ℕ) (sum : ℤ) → length s ≤ v → Summed r s v sum → Evaluates s r × (sum ≡ value r s)
summed_all r s v sum le h =
    let none = drop_all v s le in (
      h.fits.0 (subst (SumsFit sum (drop v r.coefficients)) (sym none) (nothing sum (drop v r.coefficients))),
      sym (+ℤ_idr sum) ∙ ap (λ (z : ℤ). sum +ℤ z) (sym (empty (drop v r.coefficients))) ∙ ap (λ (z : List ℤ). sum +ℤ dot (drop v r.coefficients) z) (sym none) ∙ h.value,
    )
  where
    nothing : (sum : ℤ) (cs : List ℤ) → SumsFit sum cs []
    nothing sum [] = tt
    nothing sum (c ∷ cs) = tt

    empty : (cs : List ℤ) → dot cs [] ≡ pos 0
    empty [] = refl
    empty (c ∷ cs) = refl

pub range_at : (s : State) (v : ℕ) → AllInRange s → v < length s → InRange (get_or s v (pos 0))
range_at [] v h lt = absurd (omega arith)
range_at (x ∷ s) zero h lt = h.0
range_at (x ∷ s) (suc v) h lt = range_at s v h.1 (omega arith)

-- ---- the first row that is not met

-- the rows before place i are evaluated and met
pub record Met (s : State) (rows : List Linear) (i : ℕ) : Type 0 where
  pub fits : AreEvaluated s (drop i rows) ↔ AreEvaluated s rows
  pub first : first_broken s (drop i rows) ≡ first_broken s rows

pub met_none : (s : State) (rows : List Linear) → Met s rows 0
met_none s rows = record { fits = (λ h. h, λ h. h); first = refl }

module _ (s : State) (rows : List Linear) (i : ℕ) (r : Linear) (got : slice_get rows i ≡ Some r) (so_far : Met s rows i) where
  abbrev more : List Linear
  more = drop (i + 1) rows

  fits_opened : (Evaluates s r × MatchBool (int_le (pos 0) (value r s)) (AreEvaluated s more) (Unit {0})) ↔ AreEvaluated s rows
  fits_opened = subst (λ (z : List Linear). AreEvaluated s z ↔ AreEvaluated s rows) (drop_got rows i r got) so_far.fits

  first_opened : cond (int_le (pos 0) (value r s)) (first_broken s more) (Some r) ≡ first_broken s rows
  first_opened = sym (ap (first_broken s) (drop_got rows i r got)) ∙ so_far.first

  pub met_refused : (Evaluates s r → ⊥) → AreEvaluated s rows → ⊥
  met_refused bad k = bad (fits_opened.1 k).0

  pub met_broken : Evaluates s r → int_le (pos 0) (value r s) ≡ false → AreEvaluated s rows × (Some r ≡ first_broken s rows)
  met_broken k t = (
    fits_opened.0 (k, subst (λ (b : Bool). MatchBool b (AreEvaluated s more) (Unit {0})) (sym t) tt),
    sym (ap (λ (b : Bool). cond b (first_broken s more) (Some r)) t) ∙ first_opened,
  )

  pub met_next : Evaluates s r → int_le (pos 0) (value r s) ≡ true → Met s rows (i + 1)
  met_next k t = record {
    fits = (
      λ h. fits_opened.0 (k, subst (λ (b : Bool). MatchBool b (AreEvaluated s more) (Unit {0})) (sym t) h),
      λ h. subst (λ (b : Bool). MatchBool b (AreEvaluated s more) (Unit {0})) t (fits_opened.1 h).1,
    );
    first = sym (ap (λ (b : Bool). cond b (first_broken s more) (Some r)) t) ∙ first_opened;
  }

pub met_all : (s : State) (rows : List Linear) (i : ℕ) → length rows ≤ i → Met s rows i → AreEvaluated s rows × (None ≡ first_broken s rows)
met_all s rows i le h =
    let none = drop_all i rows le in
    (h.fits.0 (subst (AreEvaluated s) (sym none) tt), ap (first_broken s) (sym none) ∙ h.first)
