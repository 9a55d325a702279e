-- A point that is found meets every row.
use Rattle.std.proofs.Common.{◌≡◌, ◌≢◌, ℕ, zero, suc, ◌<◌, ◌≤◌, ℤ, pos, refl, arith, ◌≤ℤ◌, List, [], ◌∷◌, Bool, true, false, cond, Option, Some, None, length, get_or, replicate, get_or-set_other, length-set}
use Rattle.std.proofs.lemmas.Grind.{common_steps}
use Rattle.std.specs.Prelude.{int_lt}
use Rattle.std.proofs.lemmas.Int.{ints}
use Rattle.std.proofs.Math.IntN.{*ℤ-zero}
use Rattle.pc_rows.specs.Linear.{dot}
use Rattle.pc_rows.specs.Evidence.{Point}
use Rattle.pc_rows.proofs.Algebra.{get_or-scale_list, get_or-zeros, length-scale_list}
use Rattle.pc_rows.proofs.Adding.{at_least_one}
use Rattle.pc_elim.specs.Elimination.{Made, Bound, level}
use Rattle.pc_elim.specs.Placing.{greatest, placed_at, placed_by, placed}
use Rattle.pc_elim.specs.Settling.{origin, is_contradiction, contradiction_of, taken_back}
use Rattle.pc_elim.proofs.Bounds.{greatest_is}
use Rattle.pc_elim.proofs.Placing.{IsMetAt, AllMeet, placed_meets}

dot-origin : (a : List ℤ) (w : ℕ) → dot a (replicate w (pos 0)) ≡ pos 0
dot-origin [] w = refl
dot-origin (a ∷ as') zero = refl
dot-origin (a ∷ as') (suc w) = let e = dot-origin as' w in let f = *ℤ-zero a in omega (arith, ints)

no_contradiction_meets : (w : ℕ) (r : Made) → is_contradiction r ≡ false → IsMetAt (origin w) r
no_contradiction_meets w r h = let e = dot-origin r.row.coefficients w in let f = not_below r.row.constant h in omega (arith, ints)
  where
    not_below : (c : ℤ) → int_lt c (pos 0) ≡ false → pos 0 ≤ℤ c
    not_below c h = grind (arith, ints)

none_if : (t : Bool) (r : Made) (rs : List Made) → is_contradiction r ≡ t → cond t (Some r.multipliers) (contradiction_of rs) ≡ None → (is_contradiction r ≡ false) × (contradiction_of rs ≡ None)
none_if true r rs e h = cc
none_if false r rs e h = (e, h)

pub origin_meets : (w : ℕ) (rs : List Made) → contradiction_of rs ≡ None → AllMeet (origin w) rs
origin_meets w [] h = tt
origin_meets w (r ∷ rs) h =
    let q = none_if (is_contradiction r) r rs refl h in
    (no_contradiction_meets w r q.0, origin_meets w rs q.1)

-- a point over w variables at which those before k are 0
pub record IsFrom (w k : ℕ) (p : Point) : Type 0 where
  pub long : length p.numerators ≡ w
  pub free : (j : ℕ) → j < k → get_or p.numerators j (pos 0) ≡ pos 0
  pub positive : pos 1 ≤ℤ p.denominator

pub origin_from : (w k : ℕ) → IsFrom w k (origin w)
origin_from w k = record { long = grind (arith, common_steps); free = λ j _. get_or-zeros w j; positive = omega (arith, ints) }

placed_at_from : (w k : ℕ) (p : Point) (t : Bool) (b : Bound) → k < w → pos 1 ≤ℤ b.weight → IsFrom w (suc k) p → IsFrom w k (placed_at t k p b)
placed_at_from w k p t b lt x h = record {
  long = rw (length-set, length-scale_list) h.long;
  free = λ j below. let ne : j ≢ k = omega arith in rw (get_or-set_other, get_or-scale_list, h.free j (omega arith)) (*ℤ-zero b.weight);
  positive = at_least_one b.weight p.denominator x h.positive;
}

placed_from_by : (w k : ℕ) (rs : List Made) (p : Point) (o u : Option Bound) → greatest false k p None rs ≡ o → greatest true k p None rs ≡ u → k < w → IsFrom w (suc k) p → IsFrom w k (placed_by k p o u)
placed_from_by w k rs p (Some b) u e g lt h = placed_at_from w k p false b lt (greatest_is false k p None rs b tt e).0 h
placed_from_by w k rs p None (Some b) e g lt h = placed_at_from w k p true b lt (greatest_is true k p None rs b tt g).0 h
placed_from_by w k rs p None None e g lt h = record { long = h.long; free = λ j below. h.free j (omega arith); positive = h.positive }

pub placed_from : (w k : ℕ) (rs : List Made) (p : Point) → k < w → IsFrom w (suc k) p → IsFrom w k (placed k rs p)
placed_from w k rs p lt h = placed_from_by w k rs p (greatest false k p None rs) (greatest true k p None rs) refl refl lt h

-- a point that meets the rows without the first k variables is taken back to one that meets the rows at the start
pub back_meets : (w k : ℕ) (start : List Made) (p : Point) → k ≤ w → IsFrom w k p → AllMeet p (level k start) → IsFrom w zero (taken_back k start p) × AllMeet (taken_back k start p) start
back_meets w zero start p le h m = (h, m)
back_meets w (suc k) start p le h m =
    let lt : k < w = omega arith in
    back_meets w k start (placed k (level k start) p) (omega arith) (placed_from w k (level k start) p lt h)
    (placed_meets k p (rw h.long lt) (h.free k (omega arith)) (level k start) m)
