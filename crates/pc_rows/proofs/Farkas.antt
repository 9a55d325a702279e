-- What a proof shows is met where the premises are, at rational points too.
use Rattle.std.proofs.Common.{◌≡◌, ℕ, zero, suc, ℤ, pos, negsuc, ◌+ℤ◌, ◌*ℤ◌, sym, subst, arith, ◌≤ℤ◌, List, [], ◌∷◌, get_or}
use Rattle.std.proofs.lemmas.Int.{ints, by_lt_z}
use Rattle.std.proofs.Math.IntN.{zero-*ℤ}
use Rattle.std.specs.List.{AllByRecursion}
use Rattle.pc_rows.specs.declared.proof.Part.{Part}
use Rattle.pc_rows.specs.Linear.{Linear, State, value, MeetsAll, sum_of, scaled_by, negation}
use Rattle.pc_rows.specs.Evidence.{Point}
use Rattle.pc_rows.specs.Shows.{nothing_row, times_premise, with_parts, total}
use Rattle.pc_rows.specs.Points.{numerator, MeetsAt, AllMeetAt}
use Rattle.pc_rows.specs.Laws.{ShownIsMet, RefutedIsNotShown}
use Rattle.pc_rows.proofs.Ring.{mul_add, add_mul, mul_assoc, product_not_negative, le_refl_z}
use Rattle.pc_rows.proofs.Lists.{dot-add_lists, dot-scale_list, dot-zero}
use Rattle.pc_rows.proofs.Values.{value-negation}
use Rattle.pc_rows.proofs.Joining.{number_is_meant}

pub numerator-sum : (a b : Linear) (p : Point) → numerator (sum_of a b) p ≡ numerator a p +ℤ numerator b p
numerator-sum a b p =
    let e = dot-add_lists a.coefficients b.coefficients p.numerators in
    let f = add_mul a.constant b.constant p.denominator in
    omega (arith, ints)

pub numerator-scaled : (k : ℤ) (a : Linear) (p : Point) → numerator (scaled_by k a) p ≡ k *ℤ numerator a p
numerator-scaled k a p = rw (dot-scale_list k a.coefficients p.numerators, mul_add, mul_assoc)

premise_meets : (premises : List Linear) (i : ℕ) (p : Point) → AllMeetAt p premises → MeetsAt p (get_or premises i nothing_row)
premise_meets [] i p h = let z = zero-*ℤ p.denominator in omega (arith, ints)
premise_meets (r ∷ premises) zero p h = h.0
premise_meets (r ∷ premises) (suc i) p h = premise_meets premises i p h.1

-- parts that are not negative do not lower a sum at a point that meets the premises
with_parts_above : (premises : List Linear) (sum : Linear) (ps : List Part) (p : Point) →
    AllByRecursion (λ q. pos 0 ≤ℤ q.multiplier) ps → AllMeetAt p premises → numerator sum p ≤ℤ numerator (with_parts premises sum ps) p
with_parts_above premises sum [] p h g = le_refl_z (numerator sum p)
with_parts_above premises sum (q ∷ ps) p h g =
    let r = get_or premises q.index nothing_row in
    let e = numerator-sum sum (times_premise premises q) p in
    let f = numerator-scaled q.multiplier r p in
    let a = product_not_negative q.multiplier (numerator r p) h.0 (premise_meets premises q.index p g) in
    let b = with_parts_above premises (sum_of sum (times_premise premises q)) ps p h.1 g in
    omega (arith, ints)

below_product : (c d : ℤ) → c ≤ℤ negsuc 0 → pos 1 ≤ℤ d → (c *ℤ d) ≤ℤ negsuc 0
below_product (pos c) d h g = absurd (omega (arith, ints))
below_product (negsuc c) d h g =
    let m = product_not_negative (pos c) d (omega (arith, ints)) (omega (arith, ints)) in
    let e = mul_add d (negsuc 0) (negsuc c +ℤ pos 1) in omega (arith, ints)

pub refuted_is_not_shown : RefutedIsNotShown
refuted_is_not_shown premises goal p q h g =
    let e = numerator-scaled p.goal (negation goal) q in
    let a = product_not_negative p.goal (numerator (negation goal) q) h.goal_multiplier g.meets_negation in
    let b = with_parts_above premises (scaled_by p.goal (negation goal)) p.parts q h.multipliers g.meets_premises in
    let z = dot-zero (total premises goal p).coefficients q.numerators ((number_is_meant (total premises goal p)).1 h.left) in
    let c = below_product (total premises goal p).constant q.denominator h.below g.positive in
    omega (arith, ints)

-- a state is a point over 1

point_of : State → Point
point_of s = record { numerators = s; denominator = pos 1 }

numerator-state : (r : Linear) (s : State) → numerator r (point_of s) ≡ value r s
unfolding point_of
numerator-state r s = omega (arith, ints)

all_meet : (rows : List Linear) (s : State) → MeetsAll s rows → AllMeetAt (point_of s) rows
all_meet [] s h = tt
all_meet (r ∷ rows) s h = (subst (λ z. pos 0 ≤ℤ z) (sym (numerator-state r s)) h.0, all_meet rows s h.1)

pub shown_is_met : ShownIsMet
unfolding point_of
shown_is_met premises goal p s h met = by_lt_z (value goal s) (pos 0)
    (λ below.
    let v = value-negation goal s in
    let n : pos 0 ≤ℤ value (negation goal) s = omega (arith, ints) in
    absurd (refuted_is_not_shown premises goal p (point_of s) h record {
      positive = le_refl_z (pos 1);
      meets_premises = all_meet premises s met;
      meets_negation = subst (λ z. pos 0 ≤ℤ z) (sym (numerator-state (negation goal) s)) n;
    }))
    (λ not_below. not_below)
