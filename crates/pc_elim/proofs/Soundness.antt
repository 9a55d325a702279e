-- Multipliers that are found make a contradiction of the rows at the start.
use Rattle.std.proofs.Common.{◌≡◌, ℕ, zero, suc, ◌<◌, ℤ, pos, negsuc, ◌+ℤ◌, ◌*ℤ◌, neg_ℤ, refl, sym, subst, ◌∙◌, ap, arith, ◌≤ℤ◌, List, [], ◌∷◌, Bool, true, false, cond, Some, length, get_or, ◌⊎◌, inl, inr}
use Rattle.std.specs.Prelude.{int_lt}
use Rattle.std.specs.List.{AllByRecursion, list_all}
use Rattle.std.proofs.lemmas.Int.{ints}
use Rattle.std.proofs.Math.IntN.{*ℤ-zero}
use Rattle.std.proofs.lemmas.Bool.{and_from}
use Rattle.pc_rows.specs.Linear.{Linear, add_lists, scale_list, sum_of, scaled_by, is_zero}
use Rattle.pc_rows.specs.Shows.{nothing_row}
use Rattle.pc_rows.proofs.Ring.{mul_neg, mul_comm, product_not_negative}
use Rattle.pc_rows.proofs.Lists.{zero_is}
use Rattle.pc_rows.proofs.Algebra.{row_crossed, row_scale_sum, row_scales, row_scale_scale, nothing_left, nothing_right, scaled_nothing, get_or-add_lists, get_or-scale_list, length-add_lists, length-scale_list}
use Rattle.pc_elim.specs.Elimination.{Made, is_positive, factor, combine, eliminated, level, combination, Carries}
use Rattle.pc_elim.specs.Settling.{is_contradiction, contradiction_of}
use Rattle.pc_elim.proofs.Fractions.{positive_is}
use Rattle.pc_elim.proofs.Making.{made_all}

-- the multipliers, none of which is negative, make of the rows a row without variables and below 0
pub record Contradicts (rows : List Linear) (ms : List ℤ) : Type 0 where
  pub not_negative : AllByRecursion (λ m. pos 0 ≤ℤ m) ms
  pub left : list_all is_zero (combination ms rows).coefficients ≡ true
  pub below : (combination ms rows).constant ≤ℤ negsuc 0

pub combination-none : (ms : List ℤ) → combination ms [] ≡ nothing_row
combination-none [] = refl
combination-none (m ∷ ms) = refl

pub combination-add : (ms ns : List ℤ) (rs : List Linear) → combination (add_lists ms ns) rs ≡ sum_of (combination ms rs) (combination ns rs)
combination-add [] ns rs = sym (nothing_left (combination ns rs))
combination-add (m ∷ ms) [] rs = sym (nothing_right (combination (m ∷ ms) rs))
combination-add (m ∷ ms) (n ∷ ns) [] = sym (nothing_left nothing_row)
combination-add (m ∷ ms) (n ∷ ns) (r ∷ rs) =
    ap (λ (z : Linear). sum_of (scaled_by (m +ℤ n) r) z) (combination-add ms ns rs)
    ∙ ap (λ (z : Linear). sum_of z (sum_of (combination ms rs) (combination ns rs))) (row_scales m n r)
    ∙ (row_crossed (scaled_by m r) (scaled_by n r) (combination ms rs) (combination ns rs))

pub combination-scale : (k : ℤ) (ms : List ℤ) (rs : List Linear) → combination (scale_list k ms) rs ≡ scaled_by k (combination ms rs)
combination-scale k [] rs = sym (scaled_nothing k)
combination-scale k (m ∷ ms) [] = sym (scaled_nothing k)
combination-scale k (m ∷ ms) (r ∷ rs) =
    ap (λ (z : Linear). sum_of (scaled_by (k *ℤ m) r) z) (combination-scale k ms rs)
    ∙ ap (λ (z : Linear). sum_of z (scaled_by k (combination ms rs))) (sym (row_scale_scale k m r))
    ∙ sym (row_scale_sum k (scaled_by m r) (combination ms rs))

-- signs
scale_not_negative : (k : ℤ) (ms : List ℤ) → pos 0 ≤ℤ k → AllByRecursion (λ m. pos 0 ≤ℤ m) ms → AllByRecursion (λ m. pos 0 ≤ℤ m) (scale_list k ms)
scale_not_negative k [] x h = tt
scale_not_negative k (m ∷ ms) x h = (product_not_negative k m x h.0, scale_not_negative k ms x h.1)

add_not_negative : (ms ns : List ℤ) → AllByRecursion (λ m. pos 0 ≤ℤ m) ms → AllByRecursion (λ m. pos 0 ≤ℤ m) ns → AllByRecursion (λ m. pos 0 ≤ℤ m) (add_lists ms ns)
add_not_negative [] ns h g = g
add_not_negative (m ∷ ms) [] h g = h
add_not_negative (m ∷ ms) (n ∷ ns) h g = (omega (arith, ints, h.0, g.0), add_not_negative ms ns h.1 g.1)

pub combine_carries : (rs : List Linear) (k : ℕ) (p n : Made) → is_positive (factor p k) ≡ true → is_positive (neg_ℤ (factor n k)) ≡ true → Carries rs p → Carries rs n → Carries rs (combine k p n)
combine_carries rs k p n x y a b = record {
  made =
      let e = combination-add (scale_list (neg_ℤ (factor n k)) p.multipliers) (scale_list (factor p k) n.multipliers) rs in
      let f = combination-scale (neg_ℤ (factor n k)) p.multipliers rs in
      let g = combination-scale (factor p k) n.multipliers rs in
      ap (λ (z : Linear). sum_of (scaled_by (neg_ℤ (factor n k)) z) (scaled_by (factor p k) n.row)) a.made
      ∙ ap (λ (z : Linear). sum_of (scaled_by (neg_ℤ (factor n k)) (combination p.multipliers rs)) (scaled_by (factor p k) z)) b.made
      ∙ sym (e ∙ rw (f, g) refl);
  not_negative =
      let u = positive_is (factor p k) x in
      let v = positive_is (neg_ℤ (factor n k)) y in
      add_not_negative (scale_list (neg_ℤ (factor n k)) p.multipliers) (scale_list (factor p k) n.multipliers)
      (scale_not_negative (neg_ℤ (factor n k)) p.multipliers (omega (arith, ints)) a.not_negative)
      (scale_not_negative (factor p k) n.multipliers (omega (arith, ints)) b.not_negative);
}

-- variables that are gone
pub record Freed (w k : ℕ) (r : Made) : Type 0 where
  pub long : length r.row.coefficients ≡ w
  pub gone : (j : ℕ) → j < k → factor r j ≡ pos 0

gone_more : (k : ℕ) (r : Made) → ((j : ℕ) → j < k → factor r j ≡ pos 0) → factor r k ≡ pos 0 → (j : ℕ) → j < suc k → factor r j ≡ pos 0
gone_more k r h e j lt = by_cases (λ g. h j g) (λ g. ap (factor r) g ∙ e) (near j k lt)
  where
    near : (j k : ℕ) → j < suc k → (j < k) ⊎ (j ≡ k)
    near j k lt = grind arith

    by_cases : {A B C : Type 0} → (A → C) → (B → C) → A ⊎ B → C
    by_cases f g (inl a) = f a
    by_cases f g (inr b) = g b

kept_freed : (w k : ℕ) (r : Made) → Freed w k r → is_zero (factor r k) ≡ true → Freed w (suc k) r
kept_freed w k r h e = record { long = h.long; gone = gone_more k r h.gone (zero_is (factor r k) e) }

pub factor-combine : (k j : ℕ) (p n : Made) → factor (combine k p n) j ≡ neg_ℤ (factor n k) *ℤ factor p j +ℤ factor p k *ℤ factor n j
factor-combine k j p n =
    get_or-add_lists (scale_list (neg_ℤ (factor n k)) p.row.coefficients) (scale_list (factor p k) n.row.coefficients) j
    ∙ rw (get_or-scale_list (neg_ℤ (factor n k)) p.row.coefficients j, get_or-scale_list (factor p k) n.row.coefficients j) refl

pair_freed : (w k : ℕ) (p n : Made) → Freed w k p → Freed w k n → Freed w (suc k) (combine k p n)
pair_freed w k p n a b = record {
  long = let e = length-scale_list (neg_ℤ (factor n k)) p.row.coefficients in
      let f = length-scale_list (factor p k) n.row.coefficients in
      let g = a.long in let h = b.long in
      let m = length-add_lists (scale_list (neg_ℤ (factor n k)) p.row.coefficients) (scale_list (factor p k) n.row.coefficients) (e ∙ g ∙ sym (f ∙ h)) in m ∙ e ∙ g;
  gone = gone_more k (combine k p n)
      (λ j lt. factor-combine k j p n ∙ rw (a.gone j lt, b.gone j lt) (let u = *ℤ-zero (neg_ℤ (factor n k)) in let v = *ℤ-zero (factor p k) in omega (arith, ints)))
      (factor-combine k k p n ∙ opposite (factor n k) (factor p k));
}
  where
    opposite : (a b : ℤ) → neg_ℤ a *ℤ b +ℤ b *ℤ a ≡ pos 0
    opposite a b = let e = mul_neg b a in let f = mul_comm b (neg_ℤ a) in omega (arith, ints)

abbrev pub Good : List Linear → ℕ → ℕ → Made → Type 0
Good rs w k r = Carries rs r × Freed w k r

pub eliminated_good : (base : List Linear) (w k : ℕ) (rs : List Made) → AllByRecursion (Good base w k) rs → AllByRecursion (Good base w (suc k)) (eliminated k rs)
eliminated_good base w k rs h = made_all k (Good base w k) (Good base w (suc k))
    (λ r g e. (g.0, kept_freed w k r g.1 e))
    (λ p n a b x y. (combine_carries base k p n x y a.0 b.0, pair_freed w k p n a.1 b.1))
    rs h

no_variable : (cs : List ℤ) → ((j : ℕ) → j < length cs → get_or cs j (pos 0) ≡ pos 0) → list_all is_zero cs ≡ true
no_variable [] h = refl
no_variable (c ∷ cs) h =
    let e = ap is_zero (h zero (omega arith)) in
    let f = no_variable cs (λ j lt. h (suc j) (omega arith)) in
    and_from (is_zero c) (list_all is_zero cs) e f

some_if : (ms : List ℤ) (t : Bool) (r : Made) (rs : List Made) → is_contradiction r ≡ t → cond t (Some r.multipliers) (contradiction_of rs) ≡ Some ms → ((is_contradiction r ≡ true) × (r.multipliers ≡ ms)) ⊎ (contradiction_of rs ≡ Some ms)
some_if ms true r rs e h = inl (e, cc)
some_if ms false r rs e h = inr h

good_contradicts : (base : List Linear) (w : ℕ) (r : Made) → Good base w w r → is_contradiction r ≡ true → Contradicts base r.multipliers
good_contradicts base w r g b = record {
  not_negative = g.0.not_negative;
  left = subst (λ (z : Linear). list_all is_zero z.coefficients ≡ true) g.0.made (no_variable r.row.coefficients (λ j lt. g.1.gone j (subst (λ (n : ℕ). j < n) g.1.long lt)));
  below = subst (λ (z : Linear). z.constant ≤ℤ negsuc 0) g.0.made (broken r.row.constant b);
}
  where
    broken : (c : ℤ) → int_lt c (pos 0) ≡ true → c ≤ℤ negsuc 0
    broken c h = grind (arith, ints)

-- what holds of the multipliers of every row holds of those of the first contradiction
pub first_has : (P : Made → Type 0) (Q : List ℤ → Type 0) (of : (r : Made) → P r → is_contradiction r ≡ true → Q r.multipliers) (ms : List ℤ) (rs : List Made) → AllByRecursion P rs → contradiction_of rs ≡ Some ms → Q ms
first_has P Q of ms [] g h = cc
first_has P Q of ms (r ∷ rs) g h = elim (some_if ms (is_contradiction r) r rs refl h) [
  | inl a ↦ subst Q a.1 (of r g.0 a.0)
  | inr b ↦ first_has P Q of ms rs g.1 b
]

level_good : (base : List Linear) (w k : ℕ) (start : List Made) → AllByRecursion (Good base w zero) start → AllByRecursion (Good base w k) (level k start)
level_good base w zero start h = h
level_good base w (suc k) start h = eliminated_good base w k (level k start) (level_good base w k start h)

pub last_contradicts : (base : List Linear) (w : ℕ) (start : List Made) (ms : List ℤ) → AllByRecursion (Good base w zero) start → contradiction_of (level w start) ≡ Some ms → Contradicts base ms
last_contradicts base w start ms g h = first_has (Good base w w) (Contradicts base) (good_contradicts base w) ms (level w start) (level_good base w w start g) h

-- a row has as many multipliers as there are rows at the start
abbrev pub IsFull : ℕ → Made → Type 0
IsFull parts r = length r.multipliers ≡ parts

combine_full : (parts k : ℕ) (p n : Made) → IsFull parts p → IsFull parts n → IsFull parts (combine k p n)
combine_full parts k p n a b =
    let e = length-scale_list (neg_ℤ (factor n k)) p.multipliers in
    let f = length-scale_list (factor p k) n.multipliers in
    length-add_lists (scale_list (neg_ℤ (factor n k)) p.multipliers) (scale_list (factor p k) n.multipliers) (e ∙ a ∙ sym (f ∙ b)) ∙ e ∙ a

level_full : (parts k : ℕ) (start : List Made) → AllByRecursion (IsFull parts) start → AllByRecursion (IsFull parts) (level k start)
level_full parts zero start h = h
level_full parts (suc k) start h = made_all k (IsFull parts) (IsFull parts) (λ r g _. g) (λ p n a b _ _. combine_full parts k p n a b) (level k start) (level_full parts k start h)

pub last_full : (parts w : ℕ) (start : List Made) (ms : List ℤ) → AllByRecursion (IsFull parts) start → contradiction_of (level w start) ≡ Some ms → length ms ≡ parts
last_full parts w start ms g h = first_has (IsFull parts) (λ ms. length ms ≡ parts) (λ r x _. x) ms (level w start) (level_full parts w start g) h
