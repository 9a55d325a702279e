-- Coefficients that are written term by term.
use Rattle.std.proofs.Common.{◌≡◌, ℕ, ◌+◌, ℤ, pos, refl, sym, ◌∙◌, ap, arith, List, [], ◌∷◌, ◌++◌, length, length-append, set, drop, replicate, slice_get, Some, Bool, true, false, cond}
use Rattle.std.proofs.lemmas.List.{append_assoc, set_at}
use Rattle.pc_rows.specs.Linear.{Linear, is_zero}
use Rattle.pc_rows.specs.Readers.{terms_from, terms_of}
use Rattle.pc_rows.proofs.Adding.{drop_got}
use Rattle.pc_rows.proofs.Lists.{zero_is}

-- the coefficient of each term is written at its variable
abbrev pub with_terms : List ℤ → List (ℕ × ℤ) → List ℤ
with_terms all [] = all
with_terms all (t ∷ ts) = with_terms (set all t.0 t.1) ts

module _ (front zs cs : List ℤ) (c : ℤ) (v : ℕ) where
  one_more : (t : Bool) → is_zero c ≡ t → length front ≡ v → with_terms ((front ++ c ∷ []) ++ zs) (terms_from (v + 1) cs) ≡ (front ++ c ∷ []) ++ cs →
      with_terms (front ++ pos 0 ∷ zs) (cond t (terms_from (v + 1) cs) ((v, c) ∷ terms_from (v + 1) cs)) ≡ front ++ c ∷ cs
  one_more true z e h =
      ap (λ (n : ℤ). with_terms (front ++ n ∷ zs) (terms_from (v + 1) cs)) (sym (zero_is c z))
      ∙ ap (λ (all : List ℤ). with_terms all (terms_from (v + 1) cs)) (sym (append_assoc front (c ∷ []) zs))
      ∙ h
      ∙ append_assoc front (c ∷ []) cs
  one_more false z e h =
      ap (λ (all : List ℤ). with_terms all (terms_from (v + 1) cs)) (set_at front (pos 0) zs c v e ∙ sym (append_assoc front (c ∷ []) zs))
      ∙ h
      ∙ append_assoc front (c ∷ []) cs

-- those before variable v are written, and the others are 0
all_from : (front cs : List ℤ) (v : ℕ) → length front ≡ v → with_terms (front ++ replicate (length cs) (pos 0)) (terms_from v cs) ≡ front ++ cs
all_from front [] v e = refl
all_from front (c ∷ cs) v e =
    one_more front (replicate (length cs) (pos 0)) cs c v (is_zero c) refl e
    (all_from (front ++ c ∷ []) cs (v + 1) (let l = length-append front (c ∷ []) in omega (arith, l, e)))

-- the terms of a row make its coefficients
pub first_terms : (n : ℕ) (r : Linear) → length r.coefficients ≡ n → with_terms (replicate n (pos 0)) (terms_of r) ≡ r.coefficients
first_terms n r e = ap (λ (m : ℕ). with_terms (replicate m (pos 0)) (terms_of r)) (sym e) ∙ all_from [] r.coefficients 0 refl

-- a term more
pub next_term : (all goal : List ℤ) (ts : List (ℕ × ℤ)) (k : ℕ) (t : ℕ × ℤ) → slice_get ts k ≡ Some t → with_terms all (drop k ts) ≡ goal → with_terms (set all t.0 t.1) (drop (k + 1) ts) ≡ goal
next_term all goal ts k t at h = ap (with_terms all) (sym (drop_got ts k t at)) ∙ h
