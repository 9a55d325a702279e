-- How long numerals are.
use Rattle.std.proofs.Common.{◌≡◌, ◌≤◌, ◌<◌, ℕ, zero, suc, Bool, true, false, cond, nat_eq, nat_le, ◌&&◌, [], ◌∷◌, ◌++◌, length, take, drop, refl, sym, ap, ◌∙◌, subst, inl, inr, arith, take-append-drop, length-take-le}
use Rattle.std.proofs.Math.Seq.{take-append_seam}
use Rattle.std.proofs.lemmas.Bool.{le-leb, leb-true, eqb-true}
use Rattle.std.proofs.lemmas.Bool.Decides.{nat_tests}
use Rattle.pc_text.specs.Bytes.{Bytes}
use Rattle.pc_text.specs.Lexemes.{in_number, EachPasses}
use Rattle.pc_text.specs.Longest.{run}
use Rattle.pc_text.specs.Numerals.{IsPositive, IsNumeral, IsLongestNumeral, NoDigitNext, positive_len, signed_len, numeral_len}
use Rattle.pc_text.proofs.LongestLemmas.{run_all, all_run, run_within}

pub above : (a b : ℕ) → b < a → nat_eq a b ≡ false
above a b h = grind (arith, nat_tests)

-- ---- no numeral at the front is longer

positive_some : (v : Bytes) → IsPositive v → 0 < length v
positive_some [] h = absurd h
positive_some (b ∷ w) h = omega arith

positive_bound : (v s : Bytes) → IsPositive v → length v ≤ positive_len (v ++ s)
positive_bound [] s h = absurd h
positive_bound (b ∷ w) s (low, high, h) = let more = run_all in_number w s h in rw (le-leb 49 b low, le-leb b 57 high) (omega arith)

signed_bound : (n m : ℕ) → 0 < n → n ≤ m → suc n ≤ signed_len m
signed_bound n zero h k = absurd (omega arith)
signed_bound n (suc m) h k = omega arith

positive_front : (v s : Bytes) → IsPositive v → numeral_len (v ++ s) ≡ positive_len (v ++ s)
positive_front [] s h = absurd h
positive_front (b ∷ w) s (low, high, h) = rw (above b 48 (omega arith), above b 45 (omega arith)) refl

numeral_bound : (v s : Bytes) → IsNumeral v → length v ≤ numeral_len (v ++ s)
numeral_bound v s (inl e) = rw e (omega arith)
numeral_bound v s (inr (inl p)) = rw (positive_front v s p) (positive_bound v s p)
numeral_bound v s (inr (inr (w, e, p))) = rw e (signed_bound (length w) (positive_len (w ++ s)) (positive_some w p) (positive_bound w s p))

pub numeral_some : (v : Bytes) → IsNumeral v → 0 < length v
numeral_some v (inl e) = rw e (omega arith)
numeral_some v (inr (inl p)) = positive_some v p
numeral_some v (inr (inr (w, e, p))) = rw e (omega arith)

-- ---- the front of that length is one

positive_by : (c : ℕ) (r : Bytes) (k : ℕ) (t u : Bool) → nat_le 49 c ≡ t → nat_le c 57 ≡ u → cond (t && u) (suc (run in_number r)) 0 ≡ suc k → IsPositive (take (suc k) (c ∷ r)) × (suc k ≤ length (c ∷ r))
positive_by c r k true true p q e =
    let same : run in_number r ≡ k = omega arith in
    let within = run_within in_number r in
    ((leb-true 49 c p, leb-true c 57 q, subst (λ m. EachPasses in_number (take m r)) same (all_run in_number r)), omega arith)
positive_by c r k true false p q e = absurd (omega arith)
positive_by c r k false u p q e = absurd (omega arith)

positive_found : (b : Bytes) (k : ℕ) → positive_len b ≡ suc k → IsPositive (take (suc k) b) × (suc k ≤ length b)
positive_found [] k e = absurd (omega arith)
positive_found (c ∷ r) k e = positive_by c r k (nat_le 49 c) (nat_le c 57) refl refl e

signed_by : (c : ℕ) (r : Bytes) (k m : ℕ) → c ≡ 45 → positive_len r ≡ m → signed_len m ≡ suc k → IsNumeral (take (suc k) (c ∷ r)) × (suc k ≤ length (c ∷ r))
signed_by c r k zero s p e = absurd (omega arith)
signed_by c r zero (suc m) s p e = absurd (omega arith)
signed_by c r (suc k) (suc m) s p e =
    let same : m ≡ k = omega arith in
    let found = positive_found r k (p ∙ ap suc same) in
    (inr (inr (take (suc k) r, ap (λ z. z ∷ take (suc k) r) s, found.0)), omega (arith, found.1))

numeral_by : (c : ℕ) (r : Bytes) (k : ℕ) (t u : Bool) → nat_eq c 48 ≡ t → nat_eq c 45 ≡ u → cond t 1 (cond u (signed_len (positive_len r)) (positive_len (c ∷ r))) ≡ suc k
    → IsNumeral (take (suc k) (c ∷ r)) × (suc k ≤ length (c ∷ r))
numeral_by c r zero true u p q e = (inl (ap (λ z. z ∷ []) (eqb-true c 48 p)), omega arith)
numeral_by c r (suc k) true u p q e = absurd (omega arith)
numeral_by c r k false true p q e = signed_by c r k (positive_len r) (eqb-true c 45 q) refl e
numeral_by c r k false false p q e = let found = positive_found (c ∷ r) k e in (inr (inl found.0), found.1)

numeral_found : (b : Bytes) (k : ℕ) → numeral_len b ≡ suc k → IsNumeral (take (suc k) b) × (suc k ≤ length b)
numeral_found [] k e = absurd (omega arith)
numeral_found (c ∷ r) k e = numeral_by c r k (nat_eq c 48) (nat_eq c 45) refl refl e

pub numeral_within : (b : Bytes) (k : ℕ) → numeral_len b ≡ suc k → suc k ≤ length b
numeral_within b k e = (numeral_found b k e).1

-- ---- the longest numeral

pub longest_numeral : (b : Bytes) (k : ℕ) → numeral_len b ≡ suc k → IsLongestNumeral (take (suc k) b) b
longest_numeral b k e =
    let found = numeral_found b k e in
    let long = length-take-le (suc k) b found.1 in
    record {
      rest = drop (suc k) b;
      split = sym (take-append-drop (suc k) b);
      canonical = found.0;
      longest = λ v s q h. let most : length v ≤ suc k = subst (λ z. length v ≤ z) (ap numeral_len q ∙ e) (numeral_bound v s h) in omega arith;
    }

pub no_numeral : (b w : Bytes) → numeral_len b ≡ 0 → IsLongestNumeral w b → ⊥
no_numeral b w e x = let most : length w ≤ numeral_len b = subst (λ z. length w ≤ numeral_len z) (sym x.split) (numeral_bound w x.rest x.canonical) in omega (arith, numeral_some w x.canonical)

pub only_numeral : (b w : Bytes) (k : ℕ) → numeral_len b ≡ suc k → IsLongestNumeral w b → w ≡ take (suc k) b
only_numeral b w k e x =
    let y = longest_numeral b k e in
    let found = numeral_found b k e in
    let long = length-take-le (suc k) b found.1 in
    let most : length w ≤ numeral_len b = subst (λ z. length w ≤ numeral_len z) (sym x.split) (numeral_bound w x.rest x.canonical) in
    let least : length (take (suc k) b) ≤ length w = x.longest (take (suc k) b) y.rest (sym y.split) y.canonical in
    let same : length w ≡ suc k = omega arith in
    sym (take-append_seam w x.rest) ∙ ap (take (length w)) (sym x.split) ∙ ap (λ n. take n b) same

-- ---- a numeral that no digit follows

run_stops : (rest : Bytes) → NoDigitNext rest → run in_number rest ≡ 0
run_stops [] h = refl
run_stops (b ∷ r) h = rw h refl

run_to : (w rest : Bytes) → EachPasses in_number w → NoDigitNext rest → run in_number (w ++ rest) ≡ length w
run_to [] rest h s = run_stops rest s
run_to (b ∷ w) rest h s = rw h.0 (ap suc (run_to w rest h.1 s))

positive_to : (v rest : Bytes) → IsPositive v → NoDigitNext rest → positive_len (v ++ rest) ≡ length v
positive_to [] rest h s = absurd h
positive_to (b ∷ w) rest (low, high, h) s = rw (le-leb 49 b low, le-leb b 57 high) (ap suc (run_to w rest h s))

signed_to : (n : ℕ) → 0 < n → signed_len n ≡ suc n
signed_to zero h = absurd (omega arith)
signed_to (suc n) h = refl

pub numeral_to : (v rest : Bytes) → IsNumeral v → NoDigitNext rest → numeral_len (v ++ rest) ≡ length v
numeral_to v rest (inl e) s = rw e refl
numeral_to v rest (inr (inl p)) s = positive_front v rest p ∙ positive_to v rest p s
numeral_to v rest (inr (inr (w, e, p))) s = rw e (ap signed_len (positive_to w rest p s) ∙ signed_to (length w) (positive_some w p))
