-- Laws of single intervals.
use Rattle.std.proofs.Common.{◌≡◌, ℕ, zero, suc, ◌<◌, ◌≤◌, ℤ, pos, negsuc, ◌+ℤ◌, ◌*ℤ◌, neg_ℤ, ◌≤ℤ◌, Bool, true, false, cond, Option, Some, None, refl, sym, subst, arith, inl, inr}
use Rattle.std.specs.Prelude.{◌⊎◌, ◌↔◌, ◌&&◌, int_lt}
use Rattle.std.specs.Int.{int_div_euclid}
use Rattle.std.proofs.lemmas.Bool.{and_parts}
use Rattle.std.proofs.lemmas.Int.{ints}
use Rattle.pc_rows.specs.Substitution.{IsNotBelow, IsNotAbove}
use Rattle.pc_box.specs.declared.interval.Interval.{Interval}
use Rattle.pc_box.specs.Intervals.{Holds, hull_least, hull_greatest, hull, steady_least, steady_greatest, steady, least_within, greatest_within, is_within, is_hollow_between, is_hollow, raised, lowered, cut, count_end, count_ends}
use Rattle.pc_box.specs.Laws.{CuttingIsExact}
use Rattle.pc_box.proofs.Quotients.{at_least_exact, at_most_exact}

-- ---- hulls

not_below_hull : (m n : Option ℤ) (x : ℤ) → IsNotBelow m x ⊎ IsNotBelow n x → IsNotBelow (hull_least m n) x
not_below_hull None n x h = tt
not_below_hull (Some m) None x h = tt
not_below_hull (Some m) (Some n) x (inl h) = grind (arith, ints)
not_below_hull (Some m) (Some n) x (inr h) = grind (arith, ints)

not_above_hull : (m n : Option ℤ) (x : ℤ) → IsNotAbove m x ⊎ IsNotAbove n x → IsNotAbove (hull_greatest m n) x
not_above_hull None n x h = tt
not_above_hull (Some m) None x h = tt
not_above_hull (Some m) (Some n) x (inl h) = grind (arith, ints)
not_above_hull (Some m) (Some n) x (inr h) = grind (arith, ints)

pub in_hull : (i j : Interval) (x : ℤ) → Holds i x ⊎ Holds j x → Holds (hull i j) x
in_hull i j x (inl h) = (not_below_hull i.least j.least x (inl h.0), not_above_hull i.greatest j.greatest x (inl h.1))
in_hull i j x (inr h) = (not_below_hull i.least j.least x (inr h.0), not_above_hull i.greatest j.greatest x (inr h.1))

-- ---- hulls without the ends that moved

not_below_steady : (m n : Option ℤ) (x : ℤ) → IsNotBelow m x ⊎ IsNotBelow n x → IsNotBelow (steady_least m n) x
not_below_steady None n x h = tt
not_below_steady (Some m) None x h = tt
not_below_steady (Some m) (Some n) x h = by (int_lt n m) refl h
  where
    by : (b : Bool) → int_lt n m ≡ b → (m ≤ℤ x) ⊎ (n ≤ℤ x) → IsNotBelow (cond b None (Some m)) x
    by true e g = tt
    by false e (inl g) = g
    by false e (inr g) = grind (arith, ints)

not_above_steady : (m n : Option ℤ) (x : ℤ) → IsNotAbove m x ⊎ IsNotAbove n x → IsNotAbove (steady_greatest m n) x
not_above_steady None n x h = tt
not_above_steady (Some m) None x h = tt
not_above_steady (Some m) (Some n) x h = by (int_lt m n) refl h
  where
    by : (b : Bool) → int_lt m n ≡ b → (x ≤ℤ m) ⊎ (x ≤ℤ n) → IsNotAbove (cond b None (Some m)) x
    by true e g = tt
    by false e (inl g) = g
    by false e (inr g) = grind (arith, ints)

pub in_steady : (i j : Interval) (x : ℤ) → Holds i x ⊎ Holds j x → Holds (steady i j) x
in_steady i j x (inl h) = (not_below_steady i.least j.least x (inl h.0), not_above_steady i.greatest j.greatest x (inl h.1))
in_steady i j x (inr h) = (not_below_steady i.least j.least x (inr h.0), not_above_steady i.greatest j.greatest x (inr h.1))

-- ---- intervals within others

not_below_within : (n m : Option ℤ) (x : ℤ) → least_within n m ≡ true → IsNotBelow n x → IsNotBelow m x
not_below_within n None x w h = tt
not_below_within None (Some m) x w h = absurd (cc)
not_below_within (Some n) (Some m) x w h = grind (arith, ints)

not_above_within : (n m : Option ℤ) (x : ℤ) → greatest_within n m ≡ true → IsNotAbove n x → IsNotAbove m x
not_above_within n None x w h = tt
not_above_within None (Some m) x w h = absurd (cc)
not_above_within (Some n) (Some m) x w h = grind (arith, ints)

pub in_within : (i j : Interval) (x : ℤ) → is_within i j ≡ true → Holds i x → Holds j x
in_within i j x w h =
    let both = and_parts (least_within i.least j.least) (greatest_within i.greatest j.greatest) w in
    (not_below_within i.least j.least x both.0 h.0, not_above_within i.greatest j.greatest x both.1 h.1)

-- ---- how many ends stay

few_least : (m n : Option ℤ) → count_end (steady_least m n) ≤ count_end m
few_least None n = omega arith
few_least (Some m) None = omega arith
few_least (Some m) (Some n) = by (int_lt n m)
  where
    by : (b : Bool) → count_end (cond b None (Some m)) ≤ 1
    by true = omega arith
    by false = omega arith

few_greatest : (m n : Option ℤ) → count_end (steady_greatest m n) ≤ count_end m
few_greatest None n = omega arith
few_greatest (Some m) None = omega arith
few_greatest (Some m) (Some n) = by (int_lt m n)
  where
    by : (b : Bool) → count_end (cond b None (Some m)) ≤ 1
    by true = omega arith
    by false = omega arith

fewer_least : (m n : Option ℤ) → least_within n m ≡ false → count_end (steady_least m n) < count_end m
fewer_least None n w = absurd (cc)
fewer_least (Some m) None w = omega arith
fewer_least (Some m) (Some n) w = by (int_lt n m) refl
  where
    by : (b : Bool) → int_lt n m ≡ b → count_end (cond b None (Some m)) < 1
    by true e = omega arith
    by false e = absurd (grind (arith, ints))

fewer_greatest : (m n : Option ℤ) → greatest_within n m ≡ false → count_end (steady_greatest m n) < count_end m
fewer_greatest None n w = absurd (cc)
fewer_greatest (Some m) None w = omega arith
fewer_greatest (Some m) (Some n) w = by (int_lt m n) refl
  where
    by : (b : Bool) → int_lt m n ≡ b → count_end (cond b None (Some m)) < 1
    by true e = omega arith
    by false e = absurd (grind (arith, ints))

pub few_steady : (i j : Interval) → count_ends (steady i j) ≤ count_ends i
few_steady i j = let a = few_least i.least j.least in let b = few_greatest i.greatest j.greatest in omega arith

-- an end goes where the newer interval is not within the old one
pub fewer_steady : (i j : Interval) → is_within j i ≡ false → count_ends (steady i j) < count_ends i
fewer_steady i j w = by (least_within j.least i.least) refl w
  where
    by : (b : Bool) → least_within j.least i.least ≡ b → (b && greatest_within j.greatest i.greatest) ≡ false → count_ends (steady i j) < count_ends i
    by true e h = let a = few_least i.least j.least in let b = fewer_greatest i.greatest j.greatest h in omega arith
    by false e h = let a = fewer_least i.least j.least e in let b = few_greatest i.greatest j.greatest in omega arith

pub few_ends : (i : Interval) → count_ends i ≤ 2
few_ends i = let a = one i.least in let b = one i.greatest in omega arith
  where
    one : (m : Option ℤ) → count_end m ≤ 1
    one None = omega arith
    one (Some n) = omega arith

-- ---- cuts

pub raised_exact : (m : Option ℤ) (n x : ℤ) → IsNotBelow (Some (raised m n)) x ↔ (IsNotBelow m x × (n ≤ℤ x))
raised_exact None n x = ((λ h. (tt, h)), (λ h. h.1))
raised_exact (Some m) n x = ((λ h. (grind (arith, ints), grind (arith, ints))), (λ h. let low = h.0 in let high = h.1 in grind (arith, ints)))

pub lowered_exact : (m : Option ℤ) (n x : ℤ) → IsNotAbove (Some (lowered m n)) x ↔ (IsNotAbove m x × (x ≤ℤ n))
lowered_exact None n x = ((λ h. (tt, h)), (λ h. h.1))
lowered_exact (Some m) n x = ((λ h. (grind (arith, ints), grind (arith, ints))), (λ h. let low = h.0 in let high = h.1 in grind (arith, ints)))

pub cut_positive : (k : ℕ) (c : ℤ) (i : Interval) → cut (pos (suc k)) c i ≡ record { least = Some (raised i.least (neg_ℤ (int_div_euclid c (pos (suc k))))); greatest = i.greatest }
cut_positive k c i = let positive : int_lt (pos 0) (pos (suc k)) ≡ true = grind (arith, ints) in rw positive refl

pub cutting_is_exact : CuttingIsExact
cutting_is_exact (pos zero) c i x other = absurd (other refl)
cutting_is_exact (pos (suc k)) c i x other =
    let ends = raised_exact i.least (neg_ℤ (int_div_euclid c (pos (suc k)))) x in
    let law = at_least_exact k c x in
    subst (λ (j : Interval). Holds j x ↔ (Holds i x × (pos 0 ≤ℤ (pos (suc k) *ℤ x +ℤ c)))) (sym (cut_positive k c i))
    ((λ h. let e = ends.0 h.0 in ((e.0, h.1), law.0 e.1)), (λ h. (ends.1 (h.0.0, law.1 h.1), h.0.1)))
cutting_is_exact (negsuc k) c i x other =
    let ends = lowered_exact i.greatest (int_div_euclid c (pos (suc k))) x in
    let law = at_most_exact k c x in
    ((λ h. let e = ends.0 h.1 in ((h.0, e.0), law.0 e.1)), (λ h. (h.0.0, ends.1 (h.0.1, law.1 h.1))))

-- an interval with an integer is not hollow
pub not_hollow : (i : Interval) (x : ℤ) → Holds i x → is_hollow i ≡ false
not_hollow i x h = by i.least i.greatest h.0 h.1
  where
    by : (m n : Option ℤ) → IsNotBelow m x → IsNotAbove n x → is_hollow_between m n ≡ false
    by None n a b = refl
    by (Some m) None a b = refl
    by (Some m) (Some n) a b = grind (arith, ints)
