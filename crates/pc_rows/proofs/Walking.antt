-- The walk over the terms, beside the walk over all coefficients.
use Rattle.std.proofs.Common.{◌≡◌, ◌∙◌, ℕ, suc, ◌+◌, ◌<◌, ◌≤◌, drop, ℤ, pos, ◌+ℤ◌, ◌*ℤ◌, Bool, true, false, cond, List, [], ◌∷◌, length, get_or, refl, sym, subst, ap, arith}
use Rattle.std.proofs.lemmas.Int.{ints}
use Rattle.std.proofs.Math.IntN.{zero-*ℤ}
use Rattle.pc_rows.specs.Linear.{InRange, dot, is_zero}
use Rattle.pc_rows.specs.Points.{SumsFit}
use Rattle.pc_rows.specs.Readers.{terms_from, term_product, sum_over, SumsOverFit, WalksAgree}
use Rattle.pc_rows.proofs.Lists.{zero_is}
use Rattle.std.specs.Prelude.{◌↔◌}
use Rattle.std.proofs.lemmas.List.{drop_all}
use Rattle.pc_rows.specs.declared.row.TheConstants.{VARIABLES}
use Rattle.pc_rows.specs.declared.terms.Term.{Term}
use Rattle.pc_rows.specs.Terms.{Rises, dense}
use Rattle.pc_rows.proofs.Adding.{drop_at}
use Rattle.pc_rows.proofs.Reading.{dense_terms, pairs}
use Rattle.pc_rows.proofs.TermLists.{length-dense, zero_in_range}

-- rest is what xs has from v on
abbrev IsFrom : ℕ → List ℤ → List ℤ → Type 0
IsFrom v rest xs = (k : ℕ) → get_or rest k (pos 0) ≡ get_or xs (v + k) (pos 0)

from_next : (v : ℕ) (x : ℤ) (rest xs : List ℤ) → IsFrom v (x ∷ rest) xs → IsFrom (v + 1) rest xs
from_next v x rest xs h k = let e : v + suc k ≡ v + 1 + k = omega arith in h (suc k) ∙ ap (λ n. get_or xs n (pos 0)) e

module _ (v : ℕ) (sum c x : ℤ) (cs rest xs : List ℤ) (from : IsFrom v (x ∷ rest) xs) where
  at : get_or xs v (pos 0) ≡ x
  at = let e : v + 0 ≡ v = omega arith in sym (from 0 ∙ ap (λ n. get_or xs n (pos 0)) e)

  -- a coefficient 0 changes no sum
  none : c ≡ pos 0 → c *ℤ x ≡ pos 0
  none is = ap (λ z. z *ℤ x) is ∙ zero-*ℤ x

  same : c ≡ pos 0 → sum +ℤ c *ℤ x ≡ sum
  same is = let e = none is in omega (arith, ints)

  abbrev more : List (ℕ × ℤ)
  more = terms_from (v + 1) cs

  abbrev terms_if : Bool → List (ℕ × ℤ)
  terms_if b = cond b more ((v, c) ∷ more)

  value_step : (b : Bool) → is_zero c ≡ b → ((s : ℤ) → s +ℤ dot cs rest ≡ sum_over s more xs) → sum +ℤ (c *ℤ x +ℤ dot cs rest) ≡ sum_over sum (terms_if b) xs
  value_step true e h = let n = none (zero_is c e) in let g = h sum in omega (arith, ints)
  value_step false e h =
      let g = h (sum +ℤ c *ℤ x) in
      let part : sum +ℤ (c *ℤ x +ℤ dot cs rest) ≡ sum_over (sum +ℤ c *ℤ x) more xs = omega (arith, ints) in
      part ∙ ap (λ z. sum_over (sum +ℤ c *ℤ z) more xs) (sym at)

  on_step : (b : Bool) → is_zero c ≡ b → ((s : ℤ) → SumsFit s cs rest → SumsOverFit s more xs) → SumsFit sum (c ∷ cs) (x ∷ rest) → SumsOverFit sum (terms_if b) xs
  on_step true e h f = h sum (subst (λ s. SumsFit s cs rest) (same (zero_is c e)) f.2)
  on_step false e h f = rw at (f.0, f.1, h (sum +ℤ c *ℤ x) f.2)

  back_step : (b : Bool) → is_zero c ≡ b → InRange sum → ((s : ℤ) → InRange s → SumsOverFit s more xs → SumsFit s cs rest) → SumsOverFit sum (terms_if b) xs → SumsFit sum (c ∷ cs) (x ∷ rest)
  back_step true e fits h f =
      let is = zero_is c e in
      (subst InRange (sym (none is)) zero_in_range, subst InRange (sym (same is)) fits, subst (λ s. SumsFit s cs rest) (sym (same is)) (h sum fits f))
  back_step false e fits h f = let g = rw at at f in (g.0, g.1, h (sum +ℤ c *ℤ x) g.1 g.2)

value_agrees : (v : ℕ) (sum : ℤ) (cs rest xs : List ℤ) → length cs ≤ length rest → IsFrom v rest xs → sum +ℤ dot cs rest ≡ sum_over sum (terms_from v cs) xs
value_agrees v sum [] rest xs le from = omega (arith, ints)
value_agrees v sum (c ∷ cs) [] xs le from = absurd (omega arith)
value_agrees v sum (c ∷ cs) (x ∷ rest) xs le from =
    value_step v sum c x cs rest xs from (is_zero c) refl (λ s. value_agrees (v + 1) s cs rest xs (omega arith) (from_next v x rest xs from))

fit_on : (v : ℕ) (sum : ℤ) (cs rest xs : List ℤ) → length cs ≤ length rest → IsFrom v rest xs → SumsFit sum cs rest → SumsOverFit sum (terms_from v cs) xs
fit_on v sum [] rest xs le from f = tt
fit_on v sum (c ∷ cs) [] xs le from f = absurd (omega arith)
fit_on v sum (c ∷ cs) (x ∷ rest) xs le from f =
    on_step v sum c x cs rest xs from (is_zero c) refl (λ s g. fit_on (v + 1) s cs rest xs (omega arith) (from_next v x rest xs from) g) f

fit_back : (v : ℕ) (sum : ℤ) (cs rest xs : List ℤ) → length cs ≤ length rest → IsFrom v rest xs → InRange sum → SumsOverFit sum (terms_from v cs) xs → SumsFit sum cs rest
fit_back v sum [] rest xs le from fits f = tt
fit_back v sum (c ∷ cs) [] xs le from fits f = tt
fit_back v sum (c ∷ cs) (x ∷ rest) xs le from fits f =
    back_step v sum c x cs rest xs from (is_zero c) refl fits (λ s b g. fit_back (v + 1) s cs rest xs (omega arith) (from_next v x rest xs from) b g) f

pub walks_agree : WalksAgree
walks_agree sum cs xs fits long =
    let from : IsFrom 0 xs xs = λ k. let e : k ≡ 0 + k = omega arith in ap (λ n. get_or xs n (pos 0)) e in
    (value_agrees 0 sum cs xs xs (omega arith) from, (fit_on 0 sum cs xs xs (omega arith) from, fit_back 0 sum cs xs xs (omega arith) from fits))

-- ---- one term more is added

module _ (ts : List Term) (i : ℕ) (t : Term) (x : ℤ) (xs : List ℤ) (sum new : ℤ) (lt : i < length ts) (at : t ≡ get_or ts i t)
    (read : x ≡ get_or xs t.variable (pos 0)) where
  next : pairs (drop i ts) ≡ (t.variable, t.coefficient) ∷ pairs (drop (i + 1) ts)
  next = ap pairs (drop_at ts i t lt at)

  product : t.coefficient *ℤ x ≡ term_product (t.variable, t.coefficient) xs
  product = ap (λ z. t.coefficient *ℤ z) read

  pub fits_here : SumsOverFit sum (pairs (drop i ts)) xs → InRange (t.coefficient *ℤ x) × InRange (sum +ℤ t.coefficient *ℤ x)
  fits_here h =
      let g = subst (λ ps. SumsOverFit sum ps xs) next h in
      (subst InRange (sym product) g.0, subst (λ z. InRange (sum +ℤ z)) (sym product) g.1)

  module _ (is : new ≡ sum +ℤ t.coefficient *ℤ x) where
    new_is : new ≡ sum +ℤ term_product (t.variable, t.coefficient) xs
    new_is = is ∙ ap (λ z. sum +ℤ z) product

    pub goes_on : (goal : ℤ) → sum_over sum (pairs (drop i ts)) xs ≡ goal → sum_over new (pairs (drop (i + 1) ts)) xs ≡ goal
    goes_on goal h = ap (λ z. sum_over z (pairs (drop (i + 1) ts)) xs) new_is ∙ ap (λ ps. sum_over sum ps xs) (sym next) ∙ h

    pub fits_on : SumsOverFit sum (pairs (drop i ts)) xs → SumsOverFit new (pairs (drop (i + 1) ts)) xs
    fits_on h =
        let g = subst (λ ps. SumsOverFit sum ps xs) next h in
        subst (λ z. SumsOverFit z (pairs (drop (i + 1) ts)) xs) (sym new_is) g.2

    pub fits_back : InRange (t.coefficient *ℤ x) × InRange (sum +ℤ t.coefficient *ℤ x) → SumsOverFit new (pairs (drop (i + 1) ts)) xs → SumsOverFit sum (pairs (drop i ts)) xs
    fits_back f h = subst (λ ps. SumsOverFit sum ps xs) (sym next) (
      subst InRange product f.0,
      subst (λ z. InRange (sum +ℤ z)) product f.1,
      subst (λ z. SumsOverFit z (pairs (drop (i + 1) ts)) xs) new_is h,
    )

-- the walk over the terms, in the words of the coefficients
module _ (start : ℤ) (ts : List Term) (xs : List ℤ) (rises : Rises 0 ts) (range : InRange start) (long : length xs ≡ VARIABLES) where
  agrees : (start +ℤ dot (dense ts) xs ≡ sum_over start (pairs ts) xs) × (SumsFit start (dense ts) xs ↔ SumsOverFit start (pairs ts) xs)
  agrees =
      subst (λ ps. (start +ℤ dot (dense ts) xs ≡ sum_over start ps xs) × (SumsFit start (dense ts) xs ↔ SumsOverFit start ps xs)) (dense_terms ts rises)
      (walks_agree start (dense ts) xs range (length-dense ts ∙ sym long))

  pub fits_walk : SumsFit start (dense ts) xs → SumsOverFit start (pairs ts) xs
  fits_walk h = agrees.1.0 h

  pub walked : (sum : ℤ) (i : ℕ) → length ts ≤ i → sum_over sum (pairs (drop i ts)) xs ≡ sum_over start (pairs ts) xs →
      (SumsOverFit sum (pairs (drop i ts)) xs → SumsOverFit start (pairs ts) xs) → SumsFit start (dense ts) xs × (sum ≡ start +ℤ dot (dense ts) xs)
  walked sum i le rest back =
      let none = ap pairs (drop_all i ts le) in (
        agrees.1.1 (back (subst (λ ps. SumsOverFit sum ps xs) (sym none) tt)),
        ap (λ ps. sum_over sum ps xs) (sym none) ∙ rest ∙ sym agrees.0,
      )
