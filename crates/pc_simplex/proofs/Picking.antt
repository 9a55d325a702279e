-- What is picked is one of those that may be.
use Rattle.std.proofs.Common.{◌≡◌, ◌≢◌, ℕ, zero, suc, ◌+◌, ◌≤◌, ◌<◌, ℤ, pos, refl, sym, ◌∙◌, ap, arith, List, [], ◌∷◌, length, get_or, drop, Bool, true, false, cond, Option, Some, None, IfSome}
use Rattle.std.specs.Prelude.{int_lt}
use Rattle.pc_rows.specs.Linear.{is_zero}
use Rattle.pc_rows.proofs.Tests.{not_zero}
use Rattle.pc_simplex.specs.declared.label.Label.{Label}
use Rattle.pc_simplex.specs.declared.label.Label.TheVariants.{Variable, Row}
use Rattle.pc_simplex.specs.Values.{Line, Pick}
use Rattle.pc_simplex.specs.Choosing.{is_before, earlier, first_from, first_of, leaving, leaving_each, entering, entering_each}

-- a fact of a place, where the label there may be picked
abbrev At : (ℕ → Type 0) → ℕ → Option Label → Type 0
At P i None = Unit {0}
At P i (Some l) = P i

abbrev Each : (ℕ → Type 0) → ℕ → List (Option Label) → Type 0
Each P i [] = Unit {0}
Each P i (c ∷ cs) = At P i c × Each P (i + 1) cs

module _ (P : ℕ → Type 0) where
  one_of : (t : Bool) (p q : Pick) → P p.index → P q.index → IfSome (cond t (Some p) (Some q)) (λ r. P r.index)
  one_of true p q h g = h
  one_of false p q h g = g

  earlier_has : (best : Option Pick) (i : ℕ) (c : Option Label) → IfSome best (λ p. P p.index) → At P i c → IfSome (earlier best i c) (λ p. P p.index)
  earlier_has best i None h g = h
  earlier_has None i (Some l) h g = g
  earlier_has (Some p) i (Some l) h g = one_of (is_before l p.label) (record { index = i; label = l }) p g h

  first_has : (i : ℕ) (best : Option Pick) (cs : List (Option Label)) → IfSome best (λ p. P p.index) → Each P i cs → IfSome (first_from i best cs) (λ p. P p.index)
  first_has i best [] h g = h
  first_has i best (c ∷ cs) h g = first_has (i + 1) (earlier best i c) cs (earlier_has best i c h g.0) g.1

-- lines

leaving_at : (n i : ℕ) (l : Label) (c : ℤ) → i < n → At (λ j. j < n) i (leaving l c)
leaving_at n i (Variable v) c lt = tt
leaving_at n i (Row r) c lt = by_sign (int_lt c (pos 0))
  where
    by_sign : (t : Bool) → At (λ j. j < n) i (cond t (Some (Row r)) None)
    by_sign true = lt
    by_sign false = tt

leaving_within : (n i : ℕ) (ls : List Line) → i + length ls ≤ n → Each (λ j. j < n) i (leaving_each ls)
leaving_within n i [] le = tt
leaving_within n i (l ∷ ls) le = (leaving_at n i l.label l.constant (omega arith), leaving_within n (i + 1) ls (omega arith))

pub leaving_is_line : (ls : List Line) → IfSome (first_of (leaving_each ls)) (λ p. p.index < length ls)
leaving_is_line ls = first_has (λ j. j < length ls) 0 None (leaving_each ls) tt (leaving_within (length ls) 0 ls (omega arith))

-- columns

above_zero : (x : ℤ) → int_lt (pos 0) x ≡ true → x ≢ pos 0
above_zero x e z = clash (ap (int_lt (pos 0)) (sym z) ∙ e)
  where
    clash : int_lt (pos 0) (pos 0) ≡ true → ⊥
    clash h = cc

entering_at : (P : ℕ → Type 0) (k : ℕ) (l : Label) (x : ℤ) → (x ≢ pos 0 → P k) → At P k (entering l x)
entering_at P k (Variable v) x h = by_zero (is_zero x) refl
  where
    by_zero : (t : Bool) → is_zero x ≡ t → At P k (cond t None (Some (Variable v)))
    by_zero true e = tt
    by_zero false e = h (not_zero x e)
entering_at P k (Row r) x h = by_sign (int_lt (pos 0) x) refl
  where
    by_sign : (t : Bool) → int_lt (pos 0) x ≡ t → At P k (cond t (Some (Row r)) None)
    by_sign true e = h (above_zero x e)
    by_sign false e = tt

-- the column is one of the list, and the number there is not 0
abbrev Entry : ℕ → List ℤ → ℕ → Type 0
Entry n all k = (k < n) × (get_or all k (pos 0) ≢ pos 0)

tail : (all : List ℤ) (k : ℕ) (x : ℤ) (xs : List ℤ) → drop k all ≡ x ∷ xs → (k < length all) × (x ≡ get_or all k (pos 0)) × (drop (k + 1) all ≡ xs)
tail [] zero x xs e = cc
tail [] (suc k) x xs e = cc
tail (a ∷ all) zero x xs e = (omega arith, cc, cc)
tail (a ∷ all) (suc k) x xs e =
    let t = tail all k x xs e in
    let f : suc k + 1 ≡ suc (k + 1) = omega arith in
    (omega (arith, t.0), t.1, ap (λ (n : ℕ). drop n (a ∷ all)) f ∙ t.2)

entering_each_at : (n : ℕ) (all : List ℤ) (k : ℕ) (cs : List Label) (xs : List ℤ) → length all ≡ n → drop k all ≡ xs → Each (Entry n all) k (entering_each cs xs)
entering_each_at n all k [] xs long e = tt
entering_each_at n all k (c ∷ cs) [] long e = tt
entering_each_at n all k (c ∷ cs) (x ∷ xs) long e =
    let t = tail all k x xs e in
    (entering_at (Entry n all) k c x (λ h. (omega (arith, t.0, long), λ z. h (t.1 ∙ z))), entering_each_at n all (k + 1) cs xs long t.2)

pub entering_is_entry : (n : ℕ) (cs : List Label) (xs : List ℤ) → length xs ≡ n → IfSome (first_of (entering_each cs xs)) (λ q. Entry n xs q.index)
entering_is_entry n cs xs long = first_has (Entry n xs) 0 None (entering_each cs xs) tt (entering_each_at n xs 0 cs xs long refl)
