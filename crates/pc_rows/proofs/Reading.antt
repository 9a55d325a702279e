-- What a row says of its terms: the terms of the dense list are the terms that it was made of.
use Rattle.std.proofs.Common.{◌≡◌, ◌≢◌, ◌∙◌, ℕ, zero, suc, ◌+◌, ◌<◌, ◌≤◌, ℤ, pos, negsuc, Bool, true, false, cond, List, [], ◌∷◌, map, length, get_or, replicate, Some, refl, sym, subst, ap, ap₂, arith, inl, inr}
use Rattle.std.specs.List.{range_with_len, list_all}
use Rattle.std.specs.Prelude.{slice_get, ◌==◌}
use Rattle.smallvec.specs.SmallVec.{SmallVec}
use Rattle.std.proofs.lemmas.Bool.{and_parts, cases_lt}
use Rattle.std.proofs.lemmas.Bool.Decides.{nat_tests}
use Rattle.pc_rows.specs.declared.row.TheConstants.{VARIABLES}
use Rattle.pc_rows.specs.declared.terms.Term.{Term}
use Rattle.pc_rows.specs.Linear.{Linear, IsRow, coefficient, is_number, is_zero}
use Rattle.pc_rows.specs.Terms.{IsKept, Rises, dense, lookup}
use Rattle.pc_rows.specs.Readers.{terms_from, terms_of}
use Rattle.pc_rows.specs.Merges.{Below}
use Rattle.pc_rows.proofs.Lists.{zero_is}
use Rattle.pc_rows.proofs.TermLists.{below_all, below_wider, dense_in_range, dense_none, few, get_or-dense, if_apart, if_same, length-dense, lookup_before, rises_more}

abbrev pub pairs : List Term → List (ℕ × ℤ)
pairs ts = map (λ (t : Term). (t.variable, t.coefficient)) ts

pub not_zero : (c : ℤ) → c ≢ pos 0 → is_zero c ≡ false
not_zero (pos zero) h = absurd (h refl)
not_zero (pos (suc n)) h = grind (arith, nat_tests)
not_zero (negsuc n) h = refl

same_map : (f g : ℕ → ℤ) (a n : ℕ) → ((k : ℕ) → a ≤ k → f k ≡ g k) → map f (range_with_len a n) ≡ map g (range_with_len a n)
same_map f g a zero h = refl
same_map f g a (suc n) h = simp (h a (omega arith), same_map f g (a + 1) n (λ k le. h k (omega arith)))

-- the terms of coefficients from v on, of which the first is c and the others are told by f
abbrev from_first : (ℕ → ℤ) → ℕ → ℕ → ℤ → List (ℕ × ℤ)
from_first f v n c =
    let more = terms_from (v + 1) (map f (range_with_len (v + 1) n)) in
    cond (is_zero c) more ((v, c) ∷ more)

length_pairs : (ts : List Term) → length (pairs ts) ≡ length ts
length_pairs [] = refl
length_pairs (t ∷ ts) = ap suc (length_pairs ts)

pair_at : (ts : List Term) (k : ℕ) (d : Term) → k < length ts
    → slice_get (pairs ts) k ≡ Some ((get_or ts k d).variable, (get_or ts k d).coefficient)
pair_at [] k d lt = absurd (omega arith)
pair_at (t ∷ ts) zero d lt = refl
pair_at (t ∷ ts) (suc k) d lt = pair_at ts k d (omega arith)

-- of the variables from v on, of which there are n
pub terms_from_is : (n v : ℕ) (ts : List Term) → Rises v ts → Below (v + n) ts → terms_from v (map (lookup ts) (range_with_len v n)) ≡ pairs ts
terms_from_is zero v [] h b = refl
terms_from_is zero v (t ∷ ts) h b = absurd (omega (arith, h.0, b.0))
terms_from_is (suc n) v [] h b = terms_from_is n (v + 1) [] tt tt
terms_from_is (suc n) v (t ∷ ts) h b = elim (cases_lt v t.variable) [
  | inl before ↦
      let none : lookup (t ∷ ts) v ≡ pos 0 = lookup_before (v + 1) v (t ∷ ts) (omega arith) (omega arith, h.1, h.2, h.3, h.4) in
      let rest = terms_from_is n (v + 1) (t ∷ ts) (omega arith, h.1, h.2, h.3, h.4) (below_wider (v + suc n) (v + 1 + n) (t ∷ ts) (omega arith) b) in
      ap (from_first (lookup (t ∷ ts)) v n) none ∙ rest
  | inr at ↦
      let e : t.variable ≡ v = omega (arith, h.0) in
      let here : lookup (t ∷ ts) v ≡ t.coefficient = if_same t.variable v _ _ e in
      let more = same_map (lookup (t ∷ ts)) (lookup ts) (v + 1) n (λ k le. if_apart t.variable k _ _ (omega arith)) in
      let rest = terms_from_is n (v + 1) ts (rises_more (t.variable + 1) (v + 1) ts (omega arith) h.4) (below_wider (v + suc n) (v + 1 + n) ts (omega arith) b.1) in
      ap (from_first (lookup (t ∷ ts)) v n) here
      ∙ rw (not_zero t.coefficient h.3) (ap₂ (λ (u : ℕ) (us : List (ℕ × ℤ)). (u, t.coefficient) ∷ us) (sym e) (ap (terms_from (v + 1)) more ∙ rest))
]

zeros_are : (n : ℕ) → list_all is_zero (replicate n (pos 0)) ≡ true
zeros_are zero = refl
zeros_are (suc n) = zeros_are n

zero_at : (zs : List ℤ) (k : ℕ) → list_all is_zero zs ≡ true → get_or zs k (pos 0) ≡ pos 0
zero_at [] k h = refl
zero_at (z ∷ zs) zero h = zero_is z (and_parts (is_zero z) (list_all is_zero zs) h).0
zero_at (z ∷ zs) (suc k) h = zero_at zs k (and_parts (is_zero z) (list_all is_zero zs) h).1

some_term : (t : Term) (ts : List Term) → Rises 0 (t ∷ ts) → (b : Bool) → list_all is_zero (dense (t ∷ ts)) ≡ b → b ≡ false
some_term t ts h true e = absurd (h.3 (sym (if_same t.variable t.variable _ _ refl) ∙ sym (get_or-dense (t ∷ ts) t.variable (pos 0) h.1) ∙ zero_at (dense (t ∷ ts)) t.variable e))
some_term t ts h false e = refl

-- all coefficients are 0 exactly where there is no term
dense_number : (ts : List Term) → Rises 0 ts → list_all is_zero (dense ts) ≡ (length ts == 0)
dense_number [] h = ap (list_all is_zero) dense_none ∙ zeros_are VARIABLES
dense_number (t ∷ ts) h =
    let e : (length (t ∷ ts) == 0) ≡ false = grind (arith, nat_tests) in
    some_term t ts h (list_all is_zero (dense (t ∷ ts))) refl ∙ sym e

-- each term of a list keeps what the list keeps
pub term_kept : (n : ℕ) (ts : List Term) (k : ℕ) (d : Term) → Rises n ts → k < length ts →
    ((get_or ts k d).variable < VARIABLES) × ((get_or ts k d).coefficient ≢ pos 0)
term_kept n [] k d h lt = absurd (omega arith)
term_kept n (t ∷ ts) zero d h lt = (h.1, h.3)
term_kept n (t ∷ ts) (suc k) d h lt = term_kept (t.variable + 1) ts k d h.4 (omega arith)

pub term_below : (ts : List Term) (k : ℕ) (t : Term) → Rises 0 ts → k < length ts → t ≡ get_or ts k t → t.variable < VARIABLES
term_below ts k t h lt e = subst (λ (u : Term). u.variable < VARIABLES) (sym e) (term_kept 0 ts k t h lt).0

pub dense_terms : (ts : List Term) → Rises 0 ts → terms_from 0 (dense ts) ≡ pairs ts
unfolding dense
dense_terms ts h = terms_from_is VARIABLES 0 ts h (below_wider VARIABLES (0 + VARIABLES) ts (omega arith) (below_all ts 0 h))

module _ (r : Linear) (constant : ℤ) (list : SmallVec Term) (is : ◌≡◌ {A = Linear} (record { constant = constant; coefficients = dense list.items }) r)
    (kept : IsKept constant list) where
  pub is_row : IsRow r
  is_row = subst IsRow is (record {
    wide = length-dense list.items;
    in_range = (kept.in_range, dense_in_range 0 list.items kept.terms.rises);
  })

  pub coefficient_is : (v : ℕ) → v < VARIABLES → lookup list.items v ≡ coefficient r v
  coefficient_is v lt = sym (get_or-dense list.items v (pos 0) lt) ∙ ap (λ (x : Linear). coefficient x v) is

  pub terms_are : terms_of r ≡ pairs list.items
  terms_are = ap terms_of (sym is) ∙ dense_terms list.items kept.terms.rises

  pub terms_count : length list.items ≡ length (terms_of r)
  terms_count = sym (ap length terms_are ∙ length_pairs list.items)

  pub term_is : (slice : List Term) (k : ℕ) (d : Term) → slice ≡ list.items → k < length slice
      → slice_get (terms_of r) k ≡ Some ((get_or slice k d).variable, (get_or slice k d).coefficient)
  term_is slice k d e lt = ap (λ xs. slice_get xs k) (terms_are ∙ ap pairs (sym e)) ∙ pair_at slice k d lt

  pub term_keeps : (slice : List Term) (k : ℕ) (d : Term) → slice ≡ list.items → k < length slice →
      ((get_or slice k d).variable < VARIABLES) × ((get_or slice k d).coefficient ≢ pos 0)
  term_keeps slice k d e lt = term_kept 0 slice k d (subst (Rises 0) (sym e) kept.terms.rises) lt

  pub is_few : length list.items ≤ VARIABLES
  is_few = let n = few 0 VARIABLES list.items (omega arith) kept.terms.rises (below_all list.items 0 kept.terms.rises) in omega (arith, n)

  -- a row is a number where it has no term
  pub number_is : (none : Bool) → none ≡ (length list.items == 0) → none ≡ is_number r
  number_is none e = e ∙ sym (dense_number list.items kept.terms.rises) ∙ ap is_number is
