-- How many rows an elimination makes.
use Rattle.std.proofs.Common.{◌≡◌, ℕ, zero, suc, ◌+◌, ◌-◌, ◌*◌, ◌≤◌, refl, sym, ap, subst, ◌∙◌, arith, List, [], ◌∷◌, Bool, true, false, cond, length, length-append, ◌⊎◌, inl, inr, neg_ℤ, ℤ, pos, negsuc}
use Rattle.std.proofs.lemmas.Bool.Decides.{nat_tests}
use Rattle.std.proofs.Math.Nat.{mul-le-mul_left}
use Rattle.std.proofs.lemmas.List.Sums.{sum_by-cons}
use Rattle.std.specs.Prelude.{count_by}
use Rattle.pc_rows.specs.Linear.{is_zero}
use Rattle.pc_elim.specs.Elimination.{Made, is_positive, factor, combine, flat, pair_of, with_each, kept_of, combined_of, eliminated}

abbrev pub one_if : Bool → ℕ
one_if t = cond t 1 0

abbrev pub is_under : ℕ → Made → Bool
is_under k n = is_positive (neg_ℤ (factor n k))

abbrev pub is_over : ℕ → Made → Bool
is_over k n = is_positive (factor n k)

abbrev pub is_free : ℕ → Made → Bool
is_free k n = is_zero (factor n k)

pub count_more : (f : Made → Bool) (r : Made) (rs : List Made) → count_by f (r ∷ rs) ≡ one_if (f r) + count_by f rs
count_more f r rs = sum_by-cons (λ (r : Made). one_if (f r)) r rs

length-pair : (k : ℕ) (p n : Made) (t : Bool) → length (cond t (combine k p n ∷ []) []) ≡ one_if t
length-pair k p n true = refl
length-pair k p n false = refl

length-with : (k : ℕ) (p : Made) (ns : List Made) → length (with_each k p ns) ≡ count_by (is_under k) ns
length-with k p [] = refl
length-with k p (n ∷ ns) = length-append (pair_of k p n) (with_each k p ns) ∙ rw (length-pair k p n (is_under k n), length-with k p ns) (sym (count_more (is_under k) n ns))

length-kept : (k : ℕ) (rs : List Made) → length (flat (kept_of k) rs) ≡ count_by (is_free k) rs
length-kept k [] = refl
length-kept k (r ∷ rs) = length-append (kept_of k r) (flat (kept_of k) rs) ∙ rw (one (is_free k r), length-kept k rs) (sym (count_more (is_free k) r rs))
  where
    one : (t : Bool) → length (cond t (r ∷ []) []) ≡ one_if t
    one true = refl
    one false = refl

length-combined : (k : ℕ) (all rs : List Made) → length (flat (combined_of k all) rs) ≡ count_by (is_over k) rs * count_by (is_under k) all
length-combined k all [] = omega arith
length-combined k all (r ∷ rs) =
    let e = length-append (combined_of k all r) (flat (combined_of k all) rs) in
    let f = one (is_over k r) in
    let g = length-combined k all rs in
    let c = ap (λ (n : ℕ). n * count_by (is_under k) all) (count_more (is_over k) r rs) in
    let d = distribute (one_if (is_over k r)) (count_by (is_over k) rs) (count_by (is_under k) all) in
    omega arith
  where
    one : (t : Bool) → length (cond t (with_each k r all) []) ≡ one_if t * count_by (is_under k) all
    one true = let e = length-with k r all in omega arith
    one false = omega arith

    distribute : (a b m : ℕ) → (a + b) * m ≡ a * m + b * m
    distribute a b m = omega arith

-- those that are kept and all pairs
pub length-eliminated : (k : ℕ) (rs : List Made) → length (eliminated k rs) ≡ count_by (is_free k) rs + count_by (is_over k) rs * count_by (is_under k) rs
length-eliminated k rs =
    let e = length-append (flat (kept_of k) rs) (flat (combined_of k rs) rs) in
    let f = length-kept k rs in
    let g = length-combined k rs rs in
    omega arith

one_sign : (c : ℤ) → one_if (is_zero c) + one_if (is_positive c) + one_if (is_positive (neg_ℤ c)) ≤ 1
one_sign (pos zero) = omega arith
one_sign (pos (suc n)) = below_suc n
  where
    below_suc : (n : ℕ) → one_if (is_zero (pos (suc n))) + one_if (is_positive (pos (suc n))) + one_if (is_positive (neg_ℤ (pos (suc n)))) ≤ 1
    below_suc n = grind (arith, nat_tests)
one_sign (negsuc n) = below_neg n
  where
    below_neg : (n : ℕ) → one_if (is_zero (negsuc n)) + one_if (is_positive (negsuc n)) + one_if (is_positive (neg_ℤ (negsuc n))) ≤ 1
    below_neg n = grind (arith, nat_tests)

pub counts : (k : ℕ) (rs : List Made) → count_by (is_free k) rs + count_by (is_over k) rs + count_by (is_under k) rs ≤ length rs
counts k [] = omega arith
counts k (r ∷ rs) =
    let a = count_more (is_free k) r rs in
    let b = count_more (is_over k) r rs in
    let c = count_more (is_under k) r rs in
    let e = one_sign (factor r k) in
    let f = counts k rs in omega arith

-- a product of two numbers and their sum
square_small : (p q d : ℕ) → q ≤ p + d + d → p * q ≤ (p + d) * (p + d)
square_small p q d s = let m = mul-le-mul_left p s in omega arith

square_large : (q h d : ℕ) → q + d ≤ h → (h + d) * q ≤ h * h
square_large q h d s =
    let m = mul-le-mul_left h s in
    let le : q ≤ h = omega arith in
    let n = mul-le-mul_left d le in omega arith

order : (p h : ℕ) → (p ≤ h) ⊎ (h ≤ p)
order p h = grind arith

square : (p q h : ℕ) → p + q ≤ h + h → p * q ≤ h * h
square p q h s = elim (order p h) [
  | inl le ↦ (let e : p + (h - p) ≡ h = omega arith in
      let m = square_small p q (h - p) (omega arith) in subst (λ (x : ℕ). p * q ≤ x * x) e m)
  | inr le ↦ (let e : h + (p - h) ≡ p = omega arith in
      let m = square_large q h (p - h) (omega arith) in subst (λ (x : ℕ). x * q ≤ h * h) e m)
]

pub product_room : (z p n h : ℕ) → 2 ≤ h → z + p + n ≤ h + h → z + p * n ≤ h * h
product_room z zero n h two s = let m = mul-le-mul_left h two in omega arith
product_room z (suc p) n h two s =
    let m = square (suc p) (n + z) h (omega arith) in omega arith

pub eliminated_room : (k : ℕ) (rs : List Made) (h : ℕ) → 2 ≤ h → length rs ≤ h + h → length (eliminated k rs) ≤ h * h
eliminated_room k rs h two le =
    let e = length-eliminated k rs in
    let c = counts k rs in
    let r = product_room (count_by (is_free k) rs) (count_by (is_over k) rs) (count_by (is_under k) rs) h two (omega arith) in
    omega arith
