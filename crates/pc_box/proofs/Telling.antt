-- The rows of a box are met by exactly its states.
use Rattle.std.proofs.Common.{◌≡◌, ℕ, zero, suc, ◌<◌, ◌≤◌, ℤ, pos, negsuc, ◌+ℤ◌, ◌*ℤ◌, neg_ℤ, List, length, Option, Some, None, arith, inl, inr, sym, subst}
use Rattle.std.specs.Prelude.{◌⊎◌}
use Rattle.std.proofs.lemmas.Int.{ints}
use Rattle.std.proofs.lemmas.List.{get_or-replicate, length-replicate}
use Rattle.pc_rows.specs.Laws.{at}
use Rattle.pc_rows.specs.Linear.{State, value, MeetsAll, of_constant, with_coefficient, coefficient}
use Rattle.pc_rows.specs.Substitution.{IsNotBelow, IsNotAbove}
use Rattle.pc_rows.specs.declared.row.TheConstants.{VARIABLES}
use Rattle.pc_rows.proofs.Meeting.{meets_join, meets_left, meets_right}
use Rattle.pc_rows.proofs.Values.{value-constant, value-coefficient}
use Rattle.std.proofs.Math.IntN.{zero-*ℤ}
use Rattle.pc_box.specs.declared.interval.Interval.{Interval}
use Rattle.pc_box.specs.Intervals.{Holds}
use Rattle.pc_box.specs.Boxes.{Box, interval_at, HasBounds, HasBox, IsNarrow, least_rows, greatest_rows, rows_at, rows_below, rows_of}
use Rattle.pc_box.proofs.Tables.{within_or_past, past_end}

-- the value of a constant and a multiple of a variable
value_of_one : (c k : ℤ) (v : ℕ) (s : State) → v < VARIABLES → value (with_coefficient (of_constant c) v k) s ≡ c +ℤ k *ℤ at s v
value_of_one c k v s lt =
    let long = length-replicate VARIABLES (pos 0) in
    let law = value-coefficient (of_constant c) v k s (omega arith) in
    let plain = value-constant c s in
    let none : coefficient (of_constant c) v *ℤ at s v ≡ pos 0 = rw (get_or-replicate VARIABLES v (pos 0) (pos 0) lt) (zero-*ℤ (at s v)) in
    omega (arith, ints)

least_met : (v : ℕ) (o : Option ℤ) (s : State) → v < VARIABLES → IsNotBelow o (at s v) → MeetsAll s (least_rows v o)
least_met v None s lt h = tt
least_met v (Some n) s lt h = (let e = value_of_one (neg_ℤ n) (pos 1) v s lt in let one : pos 1 *ℤ at s v ≡ at s v = omega (arith, ints) in omega (arith, ints), tt)

greatest_met : (v : ℕ) (o : Option ℤ) (s : State) → v < VARIABLES → IsNotAbove o (at s v) → MeetsAll s (greatest_rows v o)
greatest_met v None s lt h = tt
greatest_met v (Some n) s lt h = (let e = value_of_one n (negsuc 0) v s lt in let one : negsuc 0 *ℤ at s v ≡ neg_ℤ (at s v) = omega (arith, ints) in omega (arith, ints), tt)

rows_met : (bs : List Interval) (s : State) → HasBounds bs s → (n : ℕ) → n ≤ VARIABLES → MeetsAll s (rows_below bs n)
rows_met bs s has zero le = tt
rows_met bs s has (suc n) le =
    meets_join s (rows_below bs n) (rows_at bs n) (rows_met bs s has n (omega arith))
    (meets_join s (least_rows n (interval_at bs n).least) (greatest_rows n (interval_at bs n).greatest)
    (least_met n (interval_at bs n).least s (omega arith) (has n).0) (greatest_met n (interval_at bs n).greatest s (omega arith) (has n).1))

pub box_rows_met : (b : Box) → IsNarrow b → (s : State) → HasBox b s → MeetsAll s (rows_of b)
box_rows_met None few s has = absurd has
box_rows_met (Some b) few s has = rows_met b.intervals s has (length b.intervals) few

-- ---- and who meets them is in the box

least_tells : (v : ℕ) (o : Option ℤ) (s : State) → v < VARIABLES → MeetsAll s (least_rows v o) → IsNotBelow o (at s v)
least_tells v None s lt h = tt
least_tells v (Some n) s lt h =
    let e = value_of_one (neg_ℤ n) (pos 1) v s lt in
    let one : pos 1 *ℤ at s v ≡ at s v = omega (arith, ints) in
    let met = h.0 in
    omega (arith, ints)

greatest_tells : (v : ℕ) (o : Option ℤ) (s : State) → v < VARIABLES → MeetsAll s (greatest_rows v o) → IsNotAbove o (at s v)
greatest_tells v None s lt h = tt
greatest_tells v (Some n) s lt h =
    let e = value_of_one n (negsuc 0) v s lt in
    let one : negsuc 0 *ℤ at s v ≡ neg_ℤ (at s v) = omega (arith, ints) in
    let met = h.0 in
    omega (arith, ints)

rows_tell : (bs : List Interval) (s : State) (n : ℕ) → n ≤ VARIABLES → MeetsAll s (rows_below bs n) → (v : ℕ) → v < n → Holds (interval_at bs v) (at s v)
rows_tell bs s zero le h v lt = absurd (omega arith)
rows_tell bs s (suc n) le h v lt =
    by (rows_tell bs s n (omega arith) (meets_left s (rows_below bs n) (rows_at bs n) h)) (let either : (v ≡ n) ⊎ (v < n) = grind arith in either)
  where
    here : MeetsAll s (rows_at bs n)
    here = meets_right s (rows_below bs n) (rows_at bs n) h

    by : ((v : ℕ) → v < n → Holds (interval_at bs v) (at s v)) → (v ≡ n) ⊎ (v < n) → Holds (interval_at bs v) (at s v)
    by go (inr below) = go v below
    by go (inl is) = subst (λ (k : ℕ). Holds (interval_at bs k) (at s k)) (sym is) (
      least_tells n (interval_at bs n).least s (omega arith) (meets_left s (least_rows n (interval_at bs n).least) (greatest_rows n (interval_at bs n).greatest) here),
      greatest_tells n (interval_at bs n).greatest s (omega arith) (meets_right s (least_rows n (interval_at bs n).least) (greatest_rows n (interval_at bs n).greatest) here),
    )

pub box_rows_tell : (b : Box) → IsNarrow b → (s : State) → MeetsAll s (rows_of b) → HasBox b s
box_rows_tell None few s met = absurd (let e = value-constant (negsuc 0) s in let h = met.0 in omega (arith, ints))
box_rows_tell (Some b) few s met = λ v. by v (within_or_past (length b.intervals) v)
  where
    by : (v : ℕ) → (v < length b.intervals) ⊎ (length b.intervals ≤ v) → Holds (interval_at b.intervals v) (at s v)
    by v (inl lt) = rows_tell b.intervals s (length b.intervals) few met v lt
    by v (inr past) = subst (λ (i : Interval). Holds i (at s v)) (sym (past_end b.intervals v past)) (tt, tt)
