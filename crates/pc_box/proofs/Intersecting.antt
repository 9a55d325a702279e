-- An intersection has exactly the states of both boxes.
use Rattle.std.proofs.Common.{◌≡◌, ◌∙◌, ℕ, ◌<◌, ◌≤◌, max, ℤ, Bool, true, false, cond, List, length, Option, Some, None, refl, sym, ap, subst, arith, inl, inr}
use Rattle.std.specs.Prelude.{◌⊎◌, ◌↔◌, nat_lt, MatchOption}
use Rattle.pc_rows.specs.Laws.{at}
use Rattle.pc_rows.specs.Linear.{State}
use Rattle.pc_rows.specs.Substitution.{IsNotBelow, IsNotAbove}
use Rattle.pc_box.specs.declared.limits.TheConstants.{NARROWING_ROUND}
use Rattle.pc_box.specs.declared.interval.Interval.{Interval}
use Rattle.pc_box.specs.Intervals.{free, Holds}
use Rattle.pc_box.specs.Boxes.{Bounded, Box, interval_at, all_below, HasBounds, HasBox}
use Rattle.pc_box.specs.Forward.{with_intervals}
use Rattle.pc_box.specs.Meeting.{meet_least, meet_greatest, meet, meet_at, meets, is_solid_at, solid, both_of, is_box_within}
use Rattle.pc_box.specs.Backward.{narrower}
use Rattle.pc_box.proofs.Ends.{raised_exact, lowered_exact, not_hollow}
use Rattle.pc_box.proofs.Tables.{within_or_past, past_end, at_tabulated, past_tabulated, false_some}
use Rattle.pc_box.proofs.Widening.{within_has}

least_meet : (m n : Option ℤ) (x : ℤ) → IsNotBelow (meet_least m n) x ↔ (IsNotBelow m x × IsNotBelow n x)
least_meet m None x = ((λ h. (h, tt)), (λ h. h.0))
least_meet m (Some n) x = raised_exact m n x

greatest_meet : (m n : Option ℤ) (x : ℤ) → IsNotAbove (meet_greatest m n) x ↔ (IsNotAbove m x × IsNotAbove n x)
greatest_meet m None x = ((λ h. (h, tt)), (λ h. h.0))
greatest_meet m (Some n) x = lowered_exact m n x

meet_exact : (i j : Interval) (x : ℤ) → Holds (meet i j) x ↔ (Holds i x × Holds j x)
meet_exact i j x =
    let low = least_meet i.least j.least x in
    let high = greatest_meet i.greatest j.greatest x in
    ((λ h. let a = low.0 h.0 in let b = high.0 h.1 in ((a.0, b.0), (a.1, b.1))), (λ h. (low.1 (h.0.0, h.1.0), high.1 (h.0.1, h.1.1))))

pub meets_at : (as' bs : List Interval) (v : ℕ) → interval_at (meets as' bs) v ≡ meet (interval_at as' v) (interval_at bs v)
meets_at as' bs v = by (within_or_past (max (length as') (length bs)) v)
  where
    by : (v < max (length as') (length bs)) ⊎ (max (length as') (length bs) ≤ v) → interval_at (meets as' bs) v ≡ meet (interval_at as' v) (interval_at bs v)
    by (inl lt) = at_tabulated (meet_at as' bs) (max (length as') (length bs)) v lt
    by (inr le) =
        past_tabulated (meet_at as' bs) (max (length as') (length bs)) v le
        ∙ sym (ap (λ (i : Interval). meet i (interval_at bs v)) (past_end as' v (omega arith)) ∙ ap (meet free) (past_end bs v (omega arith)))

bounds_meet : (as' bs : List Interval) (s : State) → HasBounds (meets as' bs) s ↔ (HasBounds as' s × HasBounds bs s)
bounds_meet as' bs s = (
  (λ h. ((λ v. (tells h v).0), (λ v. (tells h v).1))),
  (λ h v. subst (λ (i : Interval). Holds i (at s v)) (sym (meets_at as' bs v)) ((meet_exact (interval_at as' v) (interval_at bs v) (at s v)).1 (h.0 v, h.1 v))),
)
  where
    tells : HasBounds (meets as' bs) s → (v : ℕ) → Holds (interval_at as' v) (at s v) × Holds (interval_at bs v) (at s v)
    tells h v = (meet_exact (interval_at as' v) (interval_at bs v) (at s v)).0 (subst (λ (i : Interval). Holds i (at s v)) (meets_at as' bs v) (h v))

solid_tells : (b : Bounded) (s : State) → HasBox (solid b) s → HasBounds b.intervals s
solid_tells b s = by (all_below (is_solid_at b.intervals) (length b.intervals))
  where
    by : (t : Bool) → HasBox (cond t (Some b) None) s → HasBounds b.intervals s
    by true h = h
    by false h = absurd h

solid_keeps : (b : Bounded) (s : State) → HasBounds b.intervals s → HasBox (solid b) s
solid_keeps b s has = by (all_below (is_solid_at b.intervals) (length b.intervals)) refl
  where
    by : (t : Bool) → all_below (is_solid_at b.intervals) (length b.intervals) ≡ t → HasBox (cond t (Some b) None) s
    by true e = has
    by false e =
        let v = false_some (is_solid_at b.intervals) (length b.intervals) e in
        let none : is_solid_at b.intervals v.0 ≡ true = rw (not_hollow (interval_at b.intervals v.0) (at s v.0) (has v.0)) refl in
        absurd (let some = v.2 in cc)

pub both_exact : (a b : Box) (s : State) → HasBox (both_of a b) s ↔ (HasBox a s × HasBox b s)
both_exact None b s = ((λ h. absurd h), (λ h. absurd h.0))
both_exact (Some a) None s = ((λ h. absurd h), (λ h. absurd h.1))
both_exact (Some a) (Some b) s =
    let all = with_intervals a (meets a.intervals b.intervals) in
    let law = bounds_meet a.intervals b.intervals s in
    ((λ h. law.0 (solid_tells all s h)), (λ h. solid_keeps all s (law.1 h)))

-- ---- narrowing

box_within : (a b : Box) → is_box_within a b ≡ true → (s : State) → HasBox a s → HasBox b s
box_within None b w s h = absurd h
box_within (Some a) None w s h = absurd (cc)
box_within (Some a) (Some b) w s h = within_has a b w s h

abbrev pub NarrowKeeps : Box → Box → Option Box → Type 0
NarrowKeeps old newer o = MatchOption o ((s : State) → HasBox old s → HasBox newer s) (λ v. (s : State) → HasBox v s → HasBox old s × HasBox newer s)

pub narrower_keeps : (old newer : Box) (round : ℕ) → NarrowKeeps old newer (narrower old newer round)
narrower_keeps old newer round = by (is_box_within old newer) refl
  where
    narrowed : (early : Bool) → NarrowKeeps old newer (cond early (Some (both_of old newer)) (Some None))
    narrowed true = λ s h. (both_exact old newer s).0 h
    narrowed false = λ s h. absurd h

    by : (w : Bool) → is_box_within old newer ≡ w → NarrowKeeps old newer (cond w None (cond (nat_lt round NARROWING_ROUND) (Some (both_of old newer)) (Some None)))
    by true e = box_within old newer e
    by false e = narrowed (nat_lt round NARROWING_ROUND)
