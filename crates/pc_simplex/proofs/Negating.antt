-- The negation of a row: its constant, its line, its terms, and the walk over them.
use Rattle.std.proofs.Common.{◌≡◌, ◌∙◌, ℕ, zero, suc, ◌+◌, ◌≤◌, ℤ, pos, negsuc, neg_ℤ, ◌+ℤ◌, ◌-ℤ◌, ◌*ℤ◌, refl, sym, ap, ap₂, subst, arith, Bool, true, false, cond, List, [], ◌∷◌, length, drop, get_or, Some, Result, Ok, Err, OkIff}
use Rattle.std.specs.Prelude.{slice_get, ◌↔◌}
use Rattle.std.proofs.lemmas.Bool.Decides.{nat_tests}
use Rattle.std.proofs.lemmas.Int.{ints}
use Rattle.std.proofs.lemmas.List.{drop_all}
use Rattle.pc_rows.specs.declared.number.Past.{Past}
use Rattle.pc_rows.specs.Linear.{Linear, InRange, AllInRange, IsInRange, IsRow, is_zero, negate_list, negation, dot}
use Rattle.pc_rows.specs.Evidence.{Point, IsPoint}
use Rattle.pc_rows.specs.Points.{SumsFit, NumeratorFits, numerator}
use Rattle.pc_rows.specs.Readers.{terms_from, terms_of, term_product, sum_over, SumsOverFit}
use Rattle.pc_rows.proofs.Adding.{drop_got}
use Rattle.pc_rows.proofs.Walking.{walks_agree}
use Rattle.pc_simplex.specs.declared.label.Label.TheVariants.{Row as OfRow}
use Rattle.pc_simplex.specs.Values.{Line, AreZero}

-- ---- numbers

negate_in_range : (zs : List ℤ) → AllInRange zs → AllInRange (negate_list zs)
negate_in_range [] h = tt
negate_in_range (z ∷ zs) h = let i = h.0 in (omega (arith, ints), negate_in_range zs h.1)

length-negate_list : (zs : List ℤ) → length (negate_list zs) ≡ length zs
length-negate_list [] = refl
length-negate_list (z ∷ zs) = ap suc (length-negate_list zs)

-- the other numbers of the negation are in range anyway
pub constant_is : (result : Result ℤ Past) (r : Linear) (n one : ℤ) → IsRow r → n ≡ neg_ℤ r.constant → one ≡ pos 1 →
    OkIff result (InRange (n -ℤ one)) (n -ℤ one) → OkIff result (IsInRange (negation r)) (negation r).constant
constant_is (Ok x) r n one row e f h =
    let same : n -ℤ one ≡ neg_ℤ r.constant -ℤ pos 1 = ap₂ (λ (a b : ℤ). a -ℤ b) e f in
    ((subst InRange same h.0, negate_in_range r.coefficients row.in_range.1), h.1 ∙ same)
constant_is (Err x) r n one row e f h =
    let same : n -ℤ one ≡ neg_ℤ r.constant -ℤ pos 1 = ap₂ (λ (a b : ℤ). a -ℤ b) e f in
    λ p. h (subst InRange (sym same) p.0)

-- the opposites of zeros
pub zeros_negated : (xs : List ℤ) → AreZero xs → negate_list xs ≡ xs
zeros_negated [] h = refl
zeros_negated (x ∷ xs) h = ap (λ (z : ℤ). z ∷ negate_list xs) (ap neg_ℤ h.0 ∙ sym h.0) ∙ ap (λ (zs : List ℤ). x ∷ zs) (zeros_negated xs h.1)

abbrev line_of : ℕ → ℤ → List ℤ → Line
line_of i n cs = record { label = OfRow i; constant = n; numbers = cs }

pub negation_line : (i : ℕ) (goal r : Linear) (n : ℤ) → n ≡ (negation goal).constant → r ≡ goal →
    line_of i n (negate_list r.coefficients) ≡ line_of i (negation goal).constant (negation goal).coefficients
negation_line i goal r n e f =
    ap (λ (z : ℤ). line_of i z (negate_list r.coefficients)) e
    ∙ ap (λ (q : Linear). line_of i (negation goal).constant (negate_list q.coefficients)) f

-- ---- terms

zero_opposite : (c : ℤ) → is_zero (neg_ℤ c) ≡ is_zero c
zero_opposite (pos zero) = refl
zero_opposite (pos (suc n)) = grind (arith, nat_tests)
zero_opposite (negsuc n) = grind (arith, nat_tests)

abbrev opposite_terms : List (ℕ × ℤ) → List (ℕ × ℤ)
opposite_terms [] = []
opposite_terms (t ∷ ts) = (t.0, neg_ℤ t.1) ∷ opposite_terms ts

length_opposites : (ts : List (ℕ × ℤ)) → length (opposite_terms ts) ≡ length ts
length_opposites [] = refl
length_opposites (t ∷ ts) = ap suc (length_opposites ts)

got_opposite : (ts : List (ℕ × ℤ)) (k : ℕ) (t : ℕ × ℤ) → slice_get ts k ≡ Some t → slice_get (opposite_terms ts) k ≡ Some (t.0, neg_ℤ t.1)
got_opposite [] zero t e = cc
got_opposite [] (suc k) t e = cc
got_opposite (u ∷ ts) zero t e = let s : u ≡ t = cc in ap (λ (x : ℕ × ℤ). Some (x.0, neg_ℤ x.1)) s
got_opposite (u ∷ ts) (suc k) t e = got_opposite ts k t e

terms_negated : (v : ℕ) (cs : List ℤ) → terms_from v (negate_list cs) ≡ opposite_terms (terms_from v cs)
terms_negated v [] = refl
terms_negated v (c ∷ cs) =
    ap (λ (t : Bool). cond t (terms_from (v + 1) (negate_list cs)) ((v, neg_ℤ c) ∷ terms_from (v + 1) (negate_list cs))) (zero_opposite c)
    ∙ ap (λ (ts : List (ℕ × ℤ)). cond (is_zero c) ts ((v, neg_ℤ c) ∷ ts)) (terms_negated (v + 1) cs)
    ∙ opened (terms_from (v + 1) cs) (is_zero c)
  where
    opened : (ts : List (ℕ × ℤ)) (t : Bool) → cond t (opposite_terms ts) ((v, neg_ℤ c) ∷ opposite_terms ts) ≡ opposite_terms (cond t ts ((v, c) ∷ ts))
    opened ts true = refl
    opened ts false = refl

-- ---- one term more is added

module _ (r : Linear) (k v : ℕ) (c m x : ℤ) (xs : List ℤ) (sum : ℤ) (got : slice_get (terms_of r) k ≡ Some (v, c)) (opposite : m ≡ neg_ℤ c) (read : x ≡ get_or xs v (pos 0)) where
  abbrev terms : List (ℕ × ℤ)
  terms = terms_of (negation r)

  next : drop k terms ≡ (v, neg_ℤ c) ∷ drop (k + 1) terms
  next = drop_got terms k (v, neg_ℤ c) (ap (λ (ts : List (ℕ × ℤ)). slice_get ts k) (terms_negated 0 r.coefficients) ∙ got_opposite (terms_of r) k (v, c) got)

  product : m *ℤ x ≡ term_product (v, neg_ℤ c) xs
  product = ap₂ (λ (a b : ℤ). a *ℤ b) opposite read

  pub fits_here : SumsOverFit sum (drop k terms) xs → InRange (m *ℤ x) × InRange (sum +ℤ m *ℤ x)
  fits_here h =
      let g = subst (λ (ts : List (ℕ × ℤ)). SumsOverFit sum ts xs) next h in
      (subst InRange (sym product) g.0, subst (λ (z : ℤ). InRange (sum +ℤ z)) (sym product) g.1)

  module _ (new : ℤ) (is : new ≡ sum +ℤ m *ℤ x) where
    new_is : new ≡ sum +ℤ term_product (v, neg_ℤ c) xs
    new_is = is ∙ ap (λ (z : ℤ). sum +ℤ z) product

    pub goes_on : (goal : ℤ) → sum_over sum (drop k terms) xs ≡ goal → sum_over new (drop (k + 1) terms) xs ≡ goal
    goes_on goal h = ap (λ (z : ℤ). sum_over z (drop (k + 1) terms) xs) new_is ∙ ap (λ (ts : List (ℕ × ℤ)). sum_over sum ts xs) (sym next) ∙ h

    pub fits_on : SumsOverFit sum (drop k terms) xs → SumsOverFit new (drop (k + 1) terms) xs
    fits_on h =
        let g = subst (λ (ts : List (ℕ × ℤ)). SumsOverFit sum ts xs) next h in
        subst (λ (z : ℤ). SumsOverFit z (drop (k + 1) terms) xs) (sym new_is) g.2

    pub fits_back : InRange (m *ℤ x) × InRange (sum +ℤ m *ℤ x) → SumsOverFit new (drop (k + 1) terms) xs → SumsOverFit sum (drop k terms) xs
    fits_back f h = subst (λ (ts : List (ℕ × ℤ)). SumsOverFit sum ts xs) (sym next) (
      subst InRange product f.0,
      subst (λ (z : ℤ). InRange (sum +ℤ z)) product f.1,
      subst (λ (z : ℤ). SumsOverFit z (drop (k + 1) terms) xs) new_is h,
    )

-- ---- the whole walk

module _ (r : Linear) (p : Point) (row : IsRow r) (point : IsPoint p) where
  abbrev start : ℤ
  start = (negation r).constant *ℤ p.denominator

  agrees : InRange start → (start +ℤ dot (negation r).coefficients p.numerators ≡ sum_over start (terms_of (negation r)) p.numerators) × (SumsFit start (negation r).coefficients p.numerators ↔ SumsOverFit start (terms_of (negation r)) p.numerators)
  agrees range = walks_agree start (negation r).coefficients p.numerators range (length-negate_list r.coefficients ∙ row.wide ∙ sym point.wide)

  pub fits_walk : NumeratorFits (negation r) p → SumsOverFit start (terms_of (negation r)) p.numerators
  fits_walk h = (agrees h.constant).1.0 h.sums

  pub walked : (sum : ℤ) (k : ℕ) → InRange start → length (terms_of r) ≤ k → sum_over sum (drop k (terms_of (negation r))) p.numerators ≡ sum_over start (terms_of (negation r)) p.numerators →
      (SumsOverFit sum (drop k (terms_of (negation r))) p.numerators → SumsOverFit start (terms_of (negation r)) p.numerators) →
      NumeratorFits (negation r) p × (sum ≡ numerator (negation r) p)
  walked sum k range le rest back =
      let long = ap length (terms_negated 0 r.coefficients) ∙ length_opposites (terms_of r) in
      let none = drop_all k (terms_of (negation r)) (omega (arith, le, long)) in (
        record { constant = range; sums = (agrees range).1.1 (back (subst (λ (ts : List (ℕ × ℤ)). SumsOverFit sum ts p.numerators) (sym none) tt)) },
        ap (λ (ts : List (ℕ × ℤ)). sum_over sum ts p.numerators) (sym none) ∙ rest ∙ sym (agrees range).0,
      )
