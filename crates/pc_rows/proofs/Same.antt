-- Lists of terms and lists of coefficients: one determines the other.
use Rattle.std.proofs.Common.{◌≡◌, ◌∙◌, ℕ, zero, suc, ◌+◌, ◌<◌, ℤ, pos, Bool, true, false, cond, List, [], ◌∷◌, map, get_or, refl, sym, subst, ap, ap₂, arith}
use Rattle.std.specs.Prelude.{◌==◌, ◌&&◌}
use Rattle.std.specs.Ordering.{int_eq}
use Rattle.std.specs.Cmp.Lexicographic.{pointwise}
use Rattle.std.specs.Cmp.Rules.{signed_items}
use Rattle.std.proofs.lemmas.Bool.{and_from, and_parts}
use Rattle.std.proofs.lemmas.Bool.Decides.{nat_tests, Decides-int_eq}
use Rattle.std.proofs.lemmas.List.{same_lists, get_or_default}
use Rattle.pc_rows.specs.declared.terms.Term.{Term}
use Rattle.pc_rows.specs.Linear.{is_zero}
use Rattle.pc_rows.specs.Terms.{Rises, dense}
use Rattle.pc_rows.specs.Readers.{terms_from, terms_of, among, TermsAreCoefficients, SameTermsSameRow}
use Rattle.pc_rows.proofs.Algebra.{same_row}
use Rattle.pc_rows.proofs.Lists.{zero_is}
use Rattle.pc_rows.proofs.TermLists.{if_apart, if_same}
use Rattle.pc_rows.proofs.Reading.{pairs, dense_terms}
use Rattle.pc_rows.proofs.Tests.{same_truth}

-- of coefficients from v on there is no term below v
among_before : (v k : ℕ) (cs : List ℤ) → k < v → among (terms_from v cs) k ≡ pos 0
among_before v k [] lt = refl
among_before v k (c ∷ cs) lt = by (is_zero c) (among_before (v + 1) k cs (omega arith))
  where
    by : (b : Bool) → among (terms_from (v + 1) cs) k ≡ pos 0 → among (cond b (terms_from (v + 1) cs) ((v, c) ∷ terms_from (v + 1) cs)) k ≡ pos 0
    by true h = h
    by false h = if_apart v k _ _ (omega arith) ∙ h

among_is : (v k : ℕ) (cs : List ℤ) → among (terms_from v cs) (v + k) ≡ get_or cs k (pos 0)
among_is v k [] = refl
among_is v zero (c ∷ cs) = by (is_zero c) refl
  where
    by : (b : Bool) → is_zero c ≡ b → among (cond b (terms_from (v + 1) cs) ((v, c) ∷ terms_from (v + 1) cs)) (v + 0) ≡ c
    by true e = among_before (v + 1) (v + 0) cs (omega arith) ∙ sym (zero_is c e)
    by false e = if_same v (v + 0) _ _ (omega arith)
among_is v (suc k) (c ∷ cs) = by (is_zero c) (among_is (v + 1) k cs)
  where
    next : v + 1 + k ≡ v + suc k
    next = omega arith

    by : (b : Bool) → among (terms_from (v + 1) cs) (v + 1 + k) ≡ get_or cs k (pos 0) →
        among (cond b (terms_from (v + 1) cs) ((v, c) ∷ terms_from (v + 1) cs)) (v + suc k) ≡ get_or cs k (pos 0)
    by true h = ap (among (terms_from (v + 1) cs)) (sym next) ∙ h
    by false h = if_apart v (v + suc k) _ _ (omega arith) ∙ ap (among (terms_from (v + 1) cs)) (sym next) ∙ h

pub terms_are_coefficients : TermsAreCoefficients
terms_are_coefficients r v =
    let e : 0 + v ≡ v = omega arith in ap (among (terms_of r)) (sym e) ∙ among_is 0 v r.coefficients

pub same_terms_same_row : SameTermsSameRow
same_terms_same_row a b long constant terms = same_row a b constant (same_lists a.coefficients b.coefficients long (λ k d lt.
    get_or_default a.coefficients k d (pos 0) lt
    ∙ sym (terms_are_coefficients a k) ∙ ap (λ ts. among ts k) terms ∙ terms_are_coefficients b k
    ∙ get_or_default b.coefficients k (pos 0) d (omega arith)))

-- ---- the terms of a row are the same where the coefficients are

term : ℕ × ℤ → Term
term p = record { variable = p.0; coefficient = p.1 }

unpaired : (ts : List Term) → map term (pairs ts) ≡ ts
unfolding term
unpaired [] = refl
unpaired (t ∷ ts) = ap (λ us. t ∷ us) (unpaired ts)

pub same_dense : (a b : List Term) → Rises 0 a → Rises 0 b → dense a ≡ dense b → a ≡ b
same_dense a b h g e =
    sym (unpaired a) ∙ ap (map term) (sym (dense_terms a h) ∙ ap (terms_from 0) e ∙ dense_terms b g) ∙ unpaired b

-- the test for one term
abbrev equal_terms : Term → Term → Bool
equal_terms x y = (x.variable == y.variable) && int_eq x.coefficient y.coefficient

made_of : ℕ → ℤ → Term
made_of v c = record { variable = v; coefficient = c }

pub same_term : (x y : Term) → equal_terms x y ≡ true → x ≡ y
unfolding made_of
same_term x y h =
    let p = and_parts (x.variable == y.variable) (int_eq x.coefficient y.coefficient) h in
    let variable : x.variable ≡ y.variable = grind (arith, nat_tests, p.0) in
    ap₂ made_of variable ((Decides-int_eq x.coefficient y.coefficient).0 p.1)

pub is_same_term : (x : Term) → equal_terms x x ≡ true
is_same_term x =
    let variable : (x.variable == x.variable) ≡ true = grind (arith, nat_tests) in
    and_from (x.variable == x.variable) (int_eq x.coefficient x.coefficient) variable ((Decides-int_eq x.coefficient x.coefficient).1 refl)

module _ (f : Term → Term → Bool) (same : (x y : Term) → f x y ≡ true → x ≡ y) (is_same : (x : Term) → f x x ≡ true) where
  all_same : (a b : List Term) → pointwise f a b ≡ true → a ≡ b
  all_same [] [] h = refl
  all_same [] (y ∷ ys) h = cc
  all_same (x ∷ xs) [] h = cc
  all_same (x ∷ xs) (y ∷ ys) h = let p = and_parts (f x y) (pointwise f xs ys) h in ap₂ (λ u us. u ∷ us) (same x y p.0) (all_same xs ys p.1)

  are_same : (a : List Term) → pointwise f a a ≡ true
  are_same [] = refl
  are_same (x ∷ xs) = and_from (f x x) (pointwise f xs xs) (is_same x) (are_same xs)

  pub same_coefficients : (a b : List Term) → Rises 0 a → Rises 0 b → pointwise f a b ≡ pointwise int_eq (dense a) (dense b)
  same_coefficients a b h g = same_truth (pointwise f a b) (pointwise int_eq (dense a) (dense b))
      (λ e. (signed_items (dense a) (dense b)).1 (ap dense (all_same a b e)))
      (λ e. subst (λ ts. pointwise f a ts ≡ true) (same_dense a b h g ((signed_items (dense a) (dense b)).0 e)) (are_same a))
