-- Lists that are made by counting.
use Rattle.std.proofs.Common.{◌≡◌, ℕ, zero, suc, ◌+◌, ◌-◌, ◌<◌, ◌≤◌, ℤ, sym, ◌∙◌, ap, subst, arith, List, [], ◌∷◌, ◌++◌, length, take, Some, Bool, true, false, cond}
use Rattle.std.specs.Prelude.{slice_get}
use Rattle.std.proofs.lemmas.List.{append_assoc, length-take-le}
use Rattle.pc_rows.specs.declared.proof.Part.{Part}
use Rattle.pc_rows.specs.Linear.{Linear, is_zero}
use Rattle.pc_rows.specs.Evidence.{IsAbove}
use Rattle.pc_simplex.specs.declared.label.Label.TheVariants.{Variable, Row}
use Rattle.pc_simplex.specs.Values.{Line, Table}
use Rattle.pc_simplex.specs.Turns.{variables_from, lines_of}
use Rattle.pc_simplex.specs.Found.{multiplier_of, parts_from}
use Rattle.pc_rows.specs.Parts.{part_of}

pub variables_next : (n v : ℕ) → v < n → variables_from (n - v) v ≡ Variable v ∷ variables_from (n - (v + 1)) (v + 1)
unfolding variables_from
variables_next n v lt = let s : n - v ≡ suc (n - (v + 1)) = omega arith in ap (λ (m : ℕ). variables_from m v) s

pub variables_end : (n v : ℕ) → n ≤ v → variables_from (n - v) v ≡ []
unfolding variables_from
variables_end n v le = let s : n - v ≡ 0 = omega arith in ap (λ (m : ℕ). variables_from m v) s

pub lines_of-end : (i : ℕ) (rs : List Linear) (r : Linear) (n : ℕ) → n ≡ i + length rs →
    lines_of i (rs ++ r ∷ []) ≡ lines_of i rs ++ (record { label = Row n; constant = r.constant; numbers = r.coefficients }) ∷ []
lines_of-end i [] r n e = let s : n ≡ i = omega arith in ap (λ (m : ℕ). (record { label = Row m; constant = r.constant; numbers = r.coefficients }) ∷ []) (sym s)
lines_of-end i (q ∷ rs) r n e = ap (λ (z : List Line). (record { label = Row i; constant = q.constant; numbers = q.coefficients }) ∷ z) (lines_of-end (i + 1) rs r n (omega arith))

taken : {A : Type 0} (xs : List A) (i : ℕ) (x : A) → slice_get xs i ≡ Some x → take (i + 1) xs ≡ take i xs ++ x ∷ []
taken [] zero x e = cc
taken [] (suc i) x e = cc
taken (y ∷ xs) zero x e = cc
taken (y ∷ xs) (suc i) x e =
    let s : suc i + 1 ≡ suc (i + 1) = omega arith in
    ap (λ (n : ℕ). take n (y ∷ xs)) s ∙ ap (λ z. y ∷ z) (taken xs i x e)

abbrev row_line : ℕ → Linear → Line
row_line i r = record { label = Row i; constant = r.constant; numbers = r.coefficients }

-- a line more
pub lines_next : (rs : List Linear) (i : ℕ) (r : Linear) (l : Line) (old new : List Line) → i < length rs → slice_get rs i ≡ Some r → l ≡ row_line i r →
    new ≡ old ++ l ∷ [] → old ≡ lines_of 0 (take i rs) → new ≡ lines_of 0 (take (i + 1) rs)
lines_next rs i r l old new lt at is e h =
    let n : i ≡ 0 + length (take i rs) = omega (arith, length-take-le i rs (omega arith)) in
    e
    ∙ ap (λ z. z ++ l ∷ []) h
    ∙ ap (λ (z : Line). lines_of 0 (take i rs) ++ z ∷ []) is
    ∙ sym (lines_of-end 0 (take i rs) r i n)
    ∙ ap (lines_of 0) (sym (taken rs i r at))

pub parts_next : (t : Table) (l : Line) (n i : ℕ) → i < n → parts_from t l (n - i) i ≡ part_of i (multiplier_of t l i) ++ parts_from t l (n - (i + 1)) (i + 1)
parts_next t l n i lt = let s : n - i ≡ suc (n - (i + 1)) = omega arith in ap (λ (m : ℕ). parts_from t l m i) s

-- a part more
pub parts_step : (t : Table) (l : Line) (n i : ℕ) (old new goal : List Part) → i < n → new ≡ old ++ part_of i (multiplier_of t l i) →
    old ++ parts_from t l (n - i) i ≡ goal → new ++ parts_from t l (n - (i + 1)) (i + 1) ≡ goal
parts_step t l n i old new goal lt e h =
    ap (λ (z : List Part). z ++ parts_from t l (n - (i + 1)) (i + 1)) e
    ∙ append_assoc old (part_of i (multiplier_of t l i)) (parts_from t l (n - (i + 1)) (i + 1))
    ∙ ap (λ (z : List Part). old ++ z) (sym (parts_next t l n i lt))
    ∙ h

-- its index is below the next
pub above_step : (i : ℕ) (m : ℤ) (old new : List Part) → new ≡ old ++ part_of i m → IsAbove i old → IsAbove (i + 1) new
above_step i m old new e h = subst (IsAbove (i + 1)) (sym e) (all old h)
  where
    last : (t : Bool) → IsAbove (i + 1) (cond t [] ((record { index = i; multiplier = m }) ∷ []))
    last true = tt
    last false = (omega arith, tt)

    all : (ps : List Part) → IsAbove i ps → IsAbove (i + 1) (ps ++ part_of i m)
    all [] h = last (is_zero m)
    all (p ∷ ps) h = (omega (arith, h.0), all ps h.1)
