-- The first item of a list that passes a test.
use Rattle.std.proofs.Common.{◌≡◌, ℕ, zero, suc, ◌+◌, ◌<◌, ◌≤◌, List, [], ◌∷◌, length, refl, sym, ap, ◌∙◌, arith, Bool, true, false, cond, Some, slice_get}
use Rattle.std.specs.List.{AllByRecursion, list_any, find, position_from}

module _ {A : Type 0} (p : A → Bool) where
  pub position_within : (n : ℕ) (xs : List A) (i : ℕ) → position_from p n xs ≡ Some i → (n ≤ i) × (i < n + length xs)
  position_within n [] i e = absurd (cc)
  position_within n (x ∷ xs) i e = by (p x) e (λ f. position_within (n + 1) xs i f)
    where
      by : (t : Bool) → cond t (Some n) (position_from p (n + 1) xs) ≡ Some i → (position_from p (n + 1) xs ≡ Some i → (n + 1 ≤ i) × (i < n + 1 + length xs)) → (n ≤ i) × (i < n + suc (length xs))
      by true e more = let same : n ≡ i = cc in (omega arith, omega arith)
      by false e more = let m = more e in let low = m.0 in let high = m.1 in (omega arith, omega arith)

  -- it passes, and a search gives it
  pub record IsFound (xs : List A) (x : A) : Type 0 where
    pub passes : p x ≡ true
    pub first : find p xs ≡ Some x

  later : (x y : A) (xs : List A) → p y ≡ false → IsFound xs x → IsFound (y ∷ xs) x
  later x y xs t f = record { passes = f.passes; first = ap (λ b. cond b (Some y) (find p xs)) t ∙ f.first }

  pub position_found : (n : ℕ) (xs : List A) (k : ℕ) (x : A) → position_from p n xs ≡ Some (n + k) → slice_get xs k ≡ Some x → IsFound xs x
  position_found n [] k x e got = absurd (cc)
  position_found n (y ∷ xs) zero x e got = by (p y) refl e
    where
      by : (t : Bool) → p y ≡ t → cond t (Some n) (position_from p (n + 1) xs) ≡ Some (n + zero) → IsFound (y ∷ xs) x
      by true t e = let same : y ≡ x = cc in record { passes = ap p (sym same) ∙ t; first = ap (λ b. cond b (Some y) (find p xs)) t ∙ got }
      by false t e = absurd (let w = (position_within (n + 1) xs (n + zero) e).0 in omega arith)
  position_found n (y ∷ xs) (suc k) x e got = by (p y) refl e (λ f. position_found (n + 1) xs k x f got)
    where
      by : (t : Bool) → p y ≡ t → cond t (Some n) (position_from p (n + 1) xs) ≡ Some (n + suc k) → (position_from p (n + 1) xs ≡ Some (n + 1 + k) → IsFound xs x) → IsFound (y ∷ xs) x
      by true t e more = absurd (let same : n ≡ n + suc k = cc in omega arith)
      by false t e more = let there : n + suc k ≡ n + 1 + k = omega arith in later x y xs t (more (e ∙ ap Some there))

  pub none_found : (xs : List A) → AllByRecursion (λ x. p x ≡ false) xs → list_any p xs ≡ false
  none_found [] h = refl
  none_found (x ∷ xs) h = rw (h.0) (none_found xs h.1)
