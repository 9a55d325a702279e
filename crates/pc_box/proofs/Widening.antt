-- Widening keeps states, and from some round on takes bounds away.
use Rattle.std.proofs.Common.{◌≡◌, ℕ, ◌<◌, ◌≤◌, Bool, true, false, cond, length, Option, Some, None, refl, sym, ap, subst, arith, inl, inr}
use Rattle.std.specs.Prelude.{◌⊎◌, nat_lt, MatchOption}
use Rattle.std.proofs.lemmas.Bool.Decides.{nat_tests}
use Rattle.pc_rows.specs.Laws.{at}
use Rattle.pc_rows.specs.Linear.{State}
use Rattle.pc_rows.specs.declared.row.TheConstants.{VARIABLES}
use Rattle.pc_box.specs.declared.limits.TheConstants.{WIDENING_ROUND}
use Rattle.pc_box.specs.declared.interval.Interval.{Interval}
use Rattle.pc_box.specs.Intervals.{Holds}
use Rattle.pc_box.specs.Boxes.{Bounded, Box, interval_at, HasBounds, HasBox, IsNarrow, within_at, are_within, join_of, steady_at, steadies, counted}
use Rattle.pc_box.specs.Forward.{with_intervals, widened, parts_of}
use Rattle.pc_box.proofs.Ends.{in_within, few_steady, fewer_steady}
use Rattle.pc_box.proofs.Steps.{has_join}
use Rattle.pc_box.proofs.Tables.{all_true, false_some, within_or_past, past_end, at_tabulated, tabulated_long, in_steadies, counted_most, counted_same, counted_fewer}

-- a box within another has no more states
pub within_has : (a b : Bounded) → are_within a.intervals b.intervals ≡ true → (s : State) → HasBounds a.intervals s → HasBounds b.intervals s
within_has a b w s has v = by (within_or_past (length b.intervals) v)
  where
    by : (v < length b.intervals) ⊎ (length b.intervals ≤ v) → Holds (interval_at b.intervals v) (at s v)
    by (inl lt) = in_within (interval_at a.intervals v) (interval_at b.intervals v) (at s v) (all_true (within_at a.intervals b.intervals) (length b.intervals) v w lt) (has v)
    by (inr past) = subst (λ (i : Interval). Holds i (at s v)) (sym (past_end b.intervals v past)) (tt, tt)

-- what widening promises of states
abbrev pub KeepsStates : Box → Box → Option Box → Type 0
KeepsStates old newer o = MatchOption o ((s : State) → HasBox newer s → HasBox old s) (λ v. (s : State) → HasBox old s ⊎ HasBox newer s → HasBox v s)

pub widened_keeps : (old newer : Box) (round : ℕ) → KeepsStates old newer (widened old newer round)
widened_keeps old None round = λ s h. absurd h
widened_keeps None (Some newer) round = λ s h. by s h
  where
    by : (s : State) → HasBox None s ⊎ HasBox (Some newer) s → HasBox (Some newer) s
    by s (inl h) = absurd h
    by s (inr h) = h
widened_keeps (Some old) (Some newer) round = by (are_within newer.intervals old.intervals) refl
  where
    steady_has : (s : State) → HasBox (Some old) s ⊎ HasBox (Some newer) s → HasBox (Some (with_intervals old (steadies old.intervals newer.intervals))) s
    steady_has s (inl h) = λ v. in_steadies old.intervals newer.intervals v (at s v) (inl (h v))
    steady_has s (inr h) = λ v. in_steadies old.intervals newer.intervals v (at s v) (inr (h v))

    wider : (early : Bool) → KeepsStates (Some old) (Some newer) (cond early (Some (join_of (Some old) (Some newer))) (Some (Some (with_intervals old (steadies old.intervals newer.intervals)))))
    wider true = has_join (Some old) (Some newer)
    wider false = steady_has

    by : (w : Bool) → are_within newer.intervals old.intervals ≡ w →
        KeepsStates (Some old) (Some newer) (cond w None (cond (nat_lt round WIDENING_ROUND) (Some (join_of (Some old) (Some newer))) (Some (Some (with_intervals old (steadies old.intervals newer.intervals))))))
    by true e = λ s h. within_has newer old e s h
    by false e = wider (nat_lt round WIDENING_ROUND)

abbrev pub LosesParts : Box → ℕ → Option Box → Type 0
LosesParts old round o = MatchOption o (Unit {0}) (λ v. WIDENING_ROUND ≤ round → parts_of v < parts_of old)

steady_loses : (old newer : Bounded) → length old.intervals ≤ VARIABLES → are_within newer.intervals old.intervals ≡ false →
    parts_of (Some (with_intervals old (steadies old.intervals newer.intervals))) < parts_of (Some old)
steady_loses old newer few w =
    let f = steady_at old.intervals newer.intervals in
    let n = length old.intervals in
    let moved = false_some (within_at newer.intervals old.intervals) n w in
    let long = tabulated_long f n in
    let same = counted_same (interval_at (steadies old.intervals newer.intervals)) f n (λ v lt. at_tabulated f n v lt) in
    let most = counted_most (interval_at old.intervals) n in
    let less = counted_fewer f (interval_at old.intervals) n moved.0 (λ v. few_steady (interval_at old.intervals v) (interval_at newer.intervals v)) moved.1
    (fewer_steady (interval_at old.intervals moved.0) (interval_at newer.intervals moved.0) moved.2) in
    let whole = ap (counted (interval_at (steadies old.intervals newer.intervals))) long in
    omega arith

pub widened_loses : (old newer : Box) (round : ℕ) → IsNarrow old → IsNarrow newer → LosesParts old round (widened old newer round)
widened_loses old None round few fewer = tt
widened_loses None (Some newer) round few fewer = λ late. let most = counted_most (interval_at newer.intervals) (length newer.intervals) in omega (arith, fewer)
widened_loses (Some old) (Some newer) round few fewer = by (are_within newer.intervals old.intervals) refl
  where
    wider : (early : Bool) → nat_lt round WIDENING_ROUND ≡ early → are_within newer.intervals old.intervals ≡ false →
        LosesParts (Some old) round (cond early (Some (join_of (Some old) (Some newer))) (Some (Some (with_intervals old (steadies old.intervals newer.intervals)))))
    wider true e w = λ late. absurd (grind (arith, nat_tests))
    wider false e w = λ late. steady_loses old newer few w

    by : (w : Bool) → are_within newer.intervals old.intervals ≡ w →
        LosesParts (Some old) round (cond w None (cond (nat_lt round WIDENING_ROUND) (Some (join_of (Some old) (Some newer))) (Some (Some (with_intervals old (steadies old.intervals newer.intervals))))))
    by true e = tt
    by false e = wider (nat_lt round WIDENING_ROUND) refl e
