-- What the entry asks for a box: that the variables behind the parameters may be 0.
use Rattle.std.proofs.Common.{◌≡◌, ℕ, ◌<◌, ◌≤◌, min, ℤ, pos, Bool, true, false, cond, List, length, Option, Some, None, refl, sym, subst, arith, inl, inr}
use Rattle.std.specs.Prelude.{◌⊎◌, ◌||◌, nat_lt}
use Rattle.std.proofs.lemmas.Int.{ints}
use Rattle.pc_rows.specs.Laws.{at}
use Rattle.pc_rows.specs.Linear.{State, zero_from}
use Rattle.pc_rows.specs.Substitution.{IsNotBelow, IsNotAbove}
use Rattle.pc_rows.specs.declared.row.TheConstants.{VARIABLES}
use Rattle.pc_rows.proofs.Only.{zero_from_at}
use Rattle.pc_flow.specs.declared.what.What.TheVariants.{Enter}
use Rattle.pc_box.specs.declared.interval.Interval.{Interval}
use Rattle.pc_box.specs.Intervals.{only_zero, Holds, is_within}
use Rattle.pc_box.specs.Boxes.{Bounded, Box, interval_at, all_below, HasBounds, HasBox, IsNarrow}
use Rattle.pc_box.specs.Forward.{with_intervals}
use Rattle.pc_box.specs.Backward.{may_be_zero, firsts, before_enter, before_of}
use Rattle.pc_box.proofs.Ends.{in_within}
use Rattle.pc_box.proofs.Steps.{before_stays, below_tells}
use Rattle.pc_box.proofs.Tables.{at_tabulated, tabulated_long, past_end, within_or_past, all_true, past_tabulated, false_some}

pub firsts_at : (params : ℕ) (bs : List Interval) (v : ℕ) → v < params → v < length bs → interval_at (firsts params bs) v ≡ interval_at bs v
firsts_at params bs v lt within = at_tabulated (interval_at bs) (min params (length bs)) v (omega arith)

pub before_enter_tells : (params : ℕ) (b : Bounded) (s : State) → HasBox (before_enter params b) s → HasBounds b.intervals (zero_from params s)
before_enter_tells params b s = by (all_below (may_be_zero params bs) (length bs)) refl
  where
    bs : List Interval
    bs = b.intervals

    zero_holds : Holds only_zero (pos 0)
    zero_holds = (omega (arith, ints), omega (arith, ints))

    at_place : all_below (may_be_zero params bs) (length bs) ≡ true → HasBounds (firsts params bs) s → (v : ℕ) → (v < length bs) ⊎ (length bs ≤ v) →
        ((nat_lt v params ≡ true) × (v < params)) ⊎ ((nat_lt v params ≡ false) × (params ≤ v)) → Holds (interval_at bs v) (at (zero_from params s) v)
    at_place e has v (inr past) tells = subst (λ (i : Interval). Holds i (at (zero_from params s) v)) (sym (past_end bs v past)) (tt, tt)
    at_place e has v (inl lt) (inl first) =
        subst (Holds (interval_at bs v)) (sym (before_stays params s v first.1)) (subst (λ (i : Interval). Holds i (at s v)) (firsts_at params bs v first.1 lt) (has v))
    at_place e has v (inl lt) (inr local) =
        let either : (nat_lt v params || is_within only_zero (interval_at bs v)) ≡ true = all_true (may_be_zero params bs) (length bs) v e lt in
        let zero : is_within only_zero (interval_at bs v) ≡ true = subst (λ (t : Bool). (t || is_within only_zero (interval_at bs v)) ≡ true) local.0 either in
        subst (Holds (interval_at bs v)) (sym (zero_from_at params s v local.1)) (in_within only_zero (interval_at bs v) (pos 0) zero zero_holds)

    by : (t : Bool) → all_below (may_be_zero params bs) (length bs) ≡ t → HasBox (cond t (Some (with_intervals b (firsts params bs))) None) s → HasBounds bs (zero_from params s)
    by true e h = λ v. at_place e h v (within_or_past (length bs) v) (below_tells v params)
    by false e h = absurd h

zero_within : (i : Interval) → Holds i (pos 0) → is_within only_zero i ≡ true
zero_within i h = by i.least i.greatest h.0 h.1
  where
    by : (m n : Option ℤ) → IsNotBelow m (pos 0) → IsNotAbove n (pos 0) → is_within only_zero (record { least = m; greatest = n }) ≡ true
    by None None a b = refl
    by (Some m) None a b = grind (arith, ints)
    by None (Some n) a b = grind (arith, ints)
    by (Some m) (Some n) a b = grind (arith, ints)

pub before_enter_keeps : (params : ℕ) (b : Bounded) (s : State) → HasBounds b.intervals (zero_from params s) → HasBox (before_enter params b) s
before_enter_keeps params b s has = by (all_below (may_be_zero params bs) (length bs)) refl
  where
    bs : List Interval
    bs = b.intervals

    n : ℕ
    n = min params (length bs)

    first : (v : ℕ) → (v < n) ⊎ (n ≤ v) → Holds (interval_at (firsts params bs) v) (at s v)
    first v (inl lt) =
        subst (λ (i : Interval). Holds i (at s v)) (sym (at_tabulated (interval_at bs) n v lt)) (subst (Holds (interval_at bs v)) (before_stays params s v (omega arith)) (has v))
    first v (inr past) = subst (λ (i : Interval). Holds i (at s v)) (sym (past_tabulated (interval_at bs) n v past)) (tt, tt)

    may : (v : ℕ) → ((nat_lt v params ≡ true) × (v < params)) ⊎ ((nat_lt v params ≡ false) × (params ≤ v)) → may_be_zero params bs v ≡ true
    may v (inl low) = rw low.0 refl
    may v (inr local) =
        rw (local.0, zero_within (interval_at bs v) (subst (Holds (interval_at bs v)) (zero_from_at params s v local.1) (has v))) refl

    by : (t : Bool) → all_below (may_be_zero params bs) (length bs) ≡ t → HasBox (cond t (Some (with_intervals b (firsts params bs))) None) s
    by true e = λ v. first v (within_or_past n v)
    by false e = let v = false_some (may_be_zero params bs) (length bs) e in absurd (let yes = may v.0 (below_tells v.0 params) in let no = v.2 in cc)

-- ---- no more intervals than there are variables

firsts_narrow : (params : ℕ) (b : Bounded) → (params ≤ VARIABLES) ⊎ (length b.intervals ≤ VARIABLES) → IsNarrow (before_enter params b)
firsts_narrow params b few = by (all_below (may_be_zero params b.intervals) (length b.intervals)) few
  where
    by : (t : Bool) → (params ≤ VARIABLES) ⊎ (length b.intervals ≤ VARIABLES) → IsNarrow (cond t (Some (with_intervals b (firsts params b.intervals))) None)
    by true (inl few) = let long = tabulated_long (interval_at b.intervals) (min params (length b.intervals)) in omega arith
    by true (inr few) = let long = tabulated_long (interval_at b.intervals) (min params (length b.intervals)) in omega arith
    by false few = tt

-- the box at the entry has no more intervals than there are variables
pub narrow_for : (params : ℕ) (b : Box) → params ≤ VARIABLES → IsNarrow (before_of (Enter params) b)
narrow_for params None few = tt
narrow_for params (Some b) few = firsts_narrow params b (inl few)

pub narrow_still : (params : ℕ) (b : Box) → IsNarrow b → IsNarrow (before_of (Enter params) b)
narrow_still params None few = tt
narrow_still params (Some b) few = firsts_narrow params b (inr few)
