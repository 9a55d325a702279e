-- The total of a proof with small multipliers, over premises with small numbers, is computed in range.
use Rattle.std.proofs.Common.{◌≡◌, ℕ, zero, suc, ◌+◌, ◌*◌, ◌^◌, ◌≤◌, ◌<◌, ℤ, pos, arith, List, [], ◌∷◌, length, get_or}
use Rattle.std.specs.List.{AllByRecursion}
use Rattle.std.proofs.lemmas.Int.{ints}
use Rattle.pc_rows.specs.declared.proof.Part.{Part}
use Rattle.pc_rows.specs.Linear.{Linear, sum_of, scaled_by, negation}
use Rattle.pc_rows.specs.Bounds.{IsWithin, AreWithin, Within, AllWithin}
use Rattle.pc_rows.specs.Shows.{nothing_row, times_premise, PartsFit, TotalFits}
use Rattle.pc_rows.proofs.Bounding.{at_within}
use Rattle.pc_elim.specs.Settling.{proof_of}
use Rattle.pc_elim.proofs.SmallRows.{scaled_within, row_sum_within, row_in_range}
use Rattle.pc_rows.proofs.PartLists.{parts_have, length-parts-take}

premise_within : (n : ℕ) (premises : List Linear) (i : ℕ) → AllWithin n premises → Within n (get_or premises i nothing_row)
premise_within n [] i h = record { constant = omega (arith, ints); coefficients = tt }
premise_within n (r ∷ premises) zero h = h.0
premise_within n (r ∷ premises) (suc i) h = premise_within n premises i h.1

parts_fit : (m n b : ℕ) (premises : List Linear) (sum : Linear) (ps : List Part) → b + length ps * (m * n) < 2 ^ 127 → Within b sum → AllWithin n premises →
    AllByRecursion (λ q. IsWithin m q.multiplier) ps → PartsFit premises sum ps
parts_fit m n b premises sum [] lt h g k = tt
parts_fit m n b premises sum (q ∷ ps) lt h g k =
    let w = scaled_within m n q.multiplier (get_or premises q.index nothing_row) k.0 (premise_within n premises q.index g) in
    let v = row_sum_within b (m * n) sum (times_premise premises q) h w in
    let d = distribute (length ps) (m * n) in (
      row_in_range (m * n) (times_premise premises q) (omega arith) w,
      row_in_range (b + m * n) (sum_of sum (times_premise premises q)) (omega arith) v,
      parts_fit m n (b + m * n) premises (sum_of sum (times_premise premises q)) ps (omega arith) v g k.1,
    )
  where
    distribute : (n a : ℕ) → suc n * a ≡ a + n * a
    distribute n a = omega arith

pub total_fits : (premises : List Linear) (goal : Linear) (ms : List ℤ) → length premises ≤ 12 → AreWithin (2 ^ 87) ms → AllWithin (2 ^ 10) premises → Within (2 ^ 10) (negation goal) →
    TotalFits premises goal (proof_of (length premises) ms)
total_fits premises goal ms few h g k =
    let m = get_or ms (length premises) (pos 0) in
    let product = scaled_within (2 ^ 87) (2 ^ 10) m (negation goal) (at_within (2 ^ 87) ms (length premises) h) k in
    let long = length-parts-take (length premises) ms in
    record {
      negated_goal = row_in_range (2 ^ 10) (negation goal) (omega arith) k;
      product = row_in_range (2 ^ 87 * 2 ^ 10) (scaled_by m (negation goal)) (omega arith) product;
      parts = parts_fit (2 ^ 87) (2 ^ 10) (2 ^ 87 * 2 ^ 10) premises (scaled_by m (negation goal)) (proof_of (length premises) ms).parts
          (room (length (proof_of (length premises) ms).parts) (omega arith)) product g (parts_have (IsWithin (2 ^ 87)) (length premises) ms h);
    }
  where
    room : (l : ℕ) → l ≤ 12 → 2 ^ 87 * 2 ^ 10 + l * (2 ^ 87 * 2 ^ 10) < 2 ^ 127
    room l le = omega arith
