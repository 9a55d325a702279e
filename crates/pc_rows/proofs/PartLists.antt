-- Parts that are made of multipliers.
use Rattle.std.proofs.Common.{◌≡◌, ℕ, zero, suc, ◌+◌, ◌≤◌, ◌<◌, ℤ, sym, ◌∙◌, ap, arith, List, [], ◌∷◌, ◌++◌, Bool, true, false, cond, length, get_or, take}
use Rattle.std.specs.List.{AllByRecursion}
use Rattle.std.proofs.lemmas.List.{take_more, length-take-le}
use Rattle.pc_rows.specs.declared.proof.Part.{Part}
use Rattle.pc_rows.specs.Linear.{is_zero}
use Rattle.pc_rows.specs.Evidence.{IsAbove}
use Rattle.pc_rows.specs.Parts.{parts_from}
use Rattle.pc_rows.proofs.Rising.{above_more}

abbrev pub part : ℕ → ℤ → Part
part i m = record { index = i; multiplier = m }

-- what holds of each multiplier holds of that of each part

parts_each : (P : ℤ → Type 0) (i : ℕ) (ms : List ℤ) → AllByRecursion P ms → AllByRecursion (λ q. P q.multiplier) (parts_from i ms)
parts_each P i [] h = tt
parts_each P i (m ∷ ms) h = by_zero (is_zero m) (parts_each P (i + 1) ms h.1)
  where
    by_zero : (t : Bool) → AllByRecursion (λ q. P q.multiplier) (parts_from (i + 1) ms) → AllByRecursion (λ q. P q.multiplier) (cond t (parts_from (i + 1) ms) (part i m ∷ parts_from (i + 1) ms))
    by_zero true g = g
    by_zero false g = (h.0, g)

each_take : (P : ℤ → Type 0) (n : ℕ) (ms : List ℤ) → AllByRecursion P ms → AllByRecursion P (take n ms)
each_take P zero ms h = tt
each_take P (suc n) [] h = tt
each_take P (suc n) (m ∷ ms) h = (h.0, each_take P n ms h.1)

pub parts_have : (P : ℤ → Type 0) (n : ℕ) (ms : List ℤ) → AllByRecursion P ms → AllByRecursion (λ q. P q.multiplier) (parts_from 0 (take n ms))
parts_have P n ms h = parts_each P 0 (take n ms) (each_take P n ms h)

-- their indices are below the number of multipliers

parts_above : (i : ℕ) (ms : List ℤ) → IsAbove (i + length ms) (parts_from i ms)
parts_above i [] = tt
parts_above i (m ∷ ms) = by_zero (is_zero m) (above_more (i + 1 + length ms) (i + suc (length ms)) (parts_from (i + 1) ms) (omega arith) (parts_above (i + 1) ms))
  where
    by_zero : (t : Bool) → IsAbove (i + suc (length ms)) (parts_from (i + 1) ms) → IsAbove (i + suc (length ms)) (cond t (parts_from (i + 1) ms) (part i m ∷ parts_from (i + 1) ms))
    by_zero true g = g
    by_zero false g = (omega arith, g)

length-take : (n : ℕ) (ms : List ℤ) → length (take n ms) ≤ n
length-take zero ms = omega arith
length-take (suc n) [] = omega arith
length-take (suc n) (m ∷ ms) = let e = length-take n ms in omega arith

pub parts_within : (n : ℕ) (ms : List ℤ) → IsAbove n (parts_from 0 (take n ms))
parts_within n ms = above_more (0 + length (take n ms)) n (parts_from 0 (take n ms)) (let e = length-take n ms in omega arith) (parts_above 0 (take n ms))

-- and there are not more of them

length-parts : (i : ℕ) (ms : List ℤ) → length (parts_from i ms) ≤ length ms
length-parts i [] = omega arith
length-parts i (m ∷ ms) = by_zero (is_zero m) (length-parts (i + 1) ms)
  where
    by_zero : (t : Bool) → length (parts_from (i + 1) ms) ≤ length ms → length (cond t (parts_from (i + 1) ms) (part i m ∷ parts_from (i + 1) ms)) ≤ suc (length ms)
    by_zero true g = omega arith
    by_zero false g = omega arith

pub length-parts-take : (n : ℕ) (ms : List ℤ) → length (parts_from 0 (take n ms)) ≤ n
length-parts-take n ms = let e = length-parts 0 (take n ms) in let f = length-take n ms in omega arith

-- one multiplier more

parts_last : (i : ℕ) (ms : List ℤ) (m : ℤ) → parts_from i (ms ++ m ∷ []) ≡ parts_from i ms ++ parts_from (i + length ms) (m ∷ [])
parts_last i [] m = let e : i ≡ i + 0 = omega arith in ap (λ (j : ℕ). parts_from j (m ∷ [])) e
parts_last i (n ∷ ms) m =
    let e : i + 1 + length ms ≡ i + suc (length ms) = omega arith in
    let f = parts_last (i + 1) ms m ∙ ap (λ (j : ℕ). parts_from (i + 1) ms ++ parts_from j (m ∷ [])) e in
    by_zero (is_zero n) f
  where
    by_zero : (t : Bool) → parts_from (i + 1) (ms ++ m ∷ []) ≡ parts_from (i + 1) ms ++ parts_from (i + suc (length ms)) (m ∷ []) →
        cond t (parts_from (i + 1) (ms ++ m ∷ [])) (part i n ∷ parts_from (i + 1) (ms ++ m ∷ []))
        ≡ cond t (parts_from (i + 1) ms) (part i n ∷ parts_from (i + 1) ms) ++ parts_from (i + suc (length ms)) (m ∷ [])
    by_zero true f = f
    by_zero false f = ap (λ (z : List Part). part i n ∷ z) f

pub parts_next : (ms : List ℤ) (i : ℕ) (d : ℤ) → i < length ms → parts_from 0 (take i ms) ++ parts_from i (get_or ms i d ∷ []) ≡ parts_from 0 (take (i + 1) ms)
parts_next ms i d lt =
    let l = length-take-le i ms (omega arith) in
    let e : 0 + length (take i ms) ≡ i = omega arith in
    ap (λ (j : ℕ). parts_from 0 (take i ms) ++ parts_from j (get_or ms i d ∷ [])) (sym e)
    ∙ sym (parts_last 0 (take i ms) (get_or ms i d))
    ∙ ap (parts_from 0) (sym (take_more ms i d lt))
