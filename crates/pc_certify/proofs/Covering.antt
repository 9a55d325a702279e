-- Goals that the premises cover are proved by the negated goal and at most one premise.
use Rattle.std.proofs.Common.{◌≡◌, ℕ, ◌+◌, ℤ, pos, negsuc, ◌+ℤ◌, ◌≤ℤ◌, List, [], ◌∷◌, sym, ap, subst, ◌∙◌, arith, Bool, true, false, Option, Some, None, slice_get, Ok, Err, Result}
use Rattle.std.specs.Prelude.{◌||◌}
use Rattle.std.specs.List.{AllByRecursion, list_any, position_from}
use Rattle.std.proofs.lemmas.Int.{ints}
use Rattle.std.proofs.lemmas.Option.{slice_get_within, get_or_from_slice_get}
use Rattle.pc_rows.specs.declared.rows.NoMemory.{NoMemory}
use Rattle.pc_rows.specs.Linear.{Linear, InRange, AllInRange, IsInRange, IsNumber, add_lists, negate_list, negation, sum_of, scaled_by}
use Rattle.pc_rows.specs.Joins.{is_always, is_at_most, is_covered}
use Rattle.pc_rows.specs.Evidence.{Proof}
use Rattle.pc_rows.specs.Shows.{nothing_row, total}
use Rattle.pc_rows.proofs.Algebra.{scaled_one}
use Rattle.pc_rows.proofs.Joining.{always_is, at_most_is}
use Rattle.pc_replay.specs.Accepts.{Proves}
use Rattle.pc_replay.proofs.Alls.{none_passes}
use Rattle.pc_certify.specs.Proving.{alone, with_premise, ByPremise, CoveredIs}
use Rattle.pc_certify.proofs.Positions.{position_found, none_found}

-- the coefficients of a negation and of what it negates cancel
cancelled : (cs : List ℤ) → AllByRecursion (λ c. c ≡ pos 0) (add_lists (negate_list cs) cs)
cancelled [] = tt
cancelled (c ∷ cs) = (omega (arith, ints), cancelled cs)

zeros_negated : (cs : List ℤ) → AllByRecursion (λ c. c ≡ pos 0) cs → AllByRecursion (λ c. c ≡ pos 0) (negate_list cs)
zeros_negated [] h = tt
zeros_negated (c ∷ cs) h = (let z = h.0 in omega (arith, ints), zeros_negated cs h.1)

zeros_in_range : (cs : List ℤ) → AllByRecursion (λ c. c ≡ pos 0) cs → AllInRange cs
zeros_in_range [] h = tt
zeros_in_range (c ∷ cs) h = (let z = h.0 in omega (arith, ints), zeros_in_range cs h.1)

-- a row that every state meets by its form needs no premise
pub alone_proves : (premises : List Linear) (goal : Linear) → is_always goal ≡ true → IsInRange (negation goal) → Proves premises goal alone
alone_proves premises goal always fits =
    let is = always_is goal always in
    let same = sym (scaled_one (negation goal)) in
    let c = is.1 in
    let zeros : IsNumber (negation goal) = zeros_negated goal.coefficients is.0 in
    let low : (negation goal).constant ≤ℤ negsuc 0 = omega (arith, ints) in
    record {
      shows = record {
        goal_multiplier = omega (arith, ints);
        multipliers = tt;
        indices = tt;
        left = subst IsNumber same zeros;
        below = subst (λ (r : Linear). r.constant ≤ℤ negsuc 0) same low;
      };
      fits = record { negated_goal = fits; product = subst IsInRange same fits; parts = tt };
    }

-- one premise with the same coefficients and a constant that is not greater
pub premise_proves : (premises : List Linear) (goal a : Linear) (i : ℕ) → slice_get premises i ≡ Some a → is_at_most a goal ≡ true →
    IsInRange a → IsInRange (negation goal) → InRange ((negation goal).constant +ℤ a.constant) → Proves premises goal (with_premise i)
premise_proves premises goal a i got at_most in_range fits sum =
    let is = at_most_is a goal at_most in
    let named = get_or_from_slice_get premises i a nothing_row got in
    let same_goal = sym (scaled_one (negation goal)) in
    let same_premise = sym (scaled_one a) ∙ ap (scaled_by (pos 1)) (sym named) in
    let same : sum_of (negation goal) a ≡ total premises goal (with_premise i) =
    ap (λ (r : Linear). sum_of r a) same_goal ∙ ap (λ (r : Linear). sum_of (scaled_by (pos 1) (negation goal)) r) same_premise in
    let low = is.1 in
    let below : (sum_of (negation goal) a).constant ≤ℤ negsuc 0 = omega (arith, ints) in
    let zeros : IsNumber (sum_of (negation goal) a) =
    subst (λ (cs : List ℤ). AllByRecursion (λ c. c ≡ pos 0) (add_lists (negate_list goal.coefficients) cs)) (sym is.0) (cancelled goal.coefficients) in
    let sums : IsInRange (sum_of (negation goal) a) = (sum, zeros_in_range (sum_of (negation goal) a).coefficients zeros) in
    record {
      shows = record {
        goal_multiplier = omega (arith, ints);
        multipliers = (omega (arith, ints), tt);
        indices = (slice_get_within premises i a got, tt);
        left = subst IsNumber same zeros;
        below = subst (λ (r : Linear). r.constant ≤ℤ negsuc 0) same below;
      };
      fits = record {
        negated_goal = fits;
        product = subst IsInRange same_goal fits;
        parts = (subst IsInRange same_premise in_range, subst IsInRange same sums, tt);
      };
    }

-- the first premise that covers the goal proves it, unless the sum is not in range
pub covered_by : (premises : List Linear) (goal negated a : Linear) (i : ℕ) (found : Result (Option Proof) NoMemory) → negated ≡ negation goal →
    position_from (λ r. is_at_most r goal) 0 premises ≡ Some i → slice_get premises i ≡ Some a → ByPremise i a negated found → CoveredIs premises goal found
covered_by premises goal negated a i found is at got h = by found (subst (λ (r : Linear). ByPremise i a r found) is h)
  where
    here : position_from (λ r. is_at_most r goal) 0 premises ≡ Some (0 + i)
    here = at ∙ ap Some (let e : i ≡ 0 + i = omega arith in e)

    by : (found : Result (Option Proof) NoMemory) → ByPremise i a (negation goal) found → CoveredIs premises goal found
    by (Ok (Some p)) h =
        let f = position_found (λ r. is_at_most r goal) 0 premises i a here got in
        subst (Proves premises goal) (sym h.0) (premise_proves premises goal a i got f.passes h.1.in_range h.2.in_range h.3)
    by (Ok None) h = (a, (position_found (λ r. is_at_most r goal) 0 premises i a here got).first, h)
    by (Err e) h = tt

-- of the premises that cover a goal which not every state meets by its form one is found
pub cover_is_found : (premises : List Linear) (goal : Linear) → is_covered goal premises ≡ true → is_always goal ≡ false →
    position_from (λ r. is_at_most r goal) 0 premises ≡ None → ⊥
cover_is_found premises goal covers not_always none =
    let no = none_found (λ r. is_at_most r goal) premises (none_passes (λ r. is_at_most r goal) 0 premises none) in
    neither (is_always goal) (list_any (λ r. is_at_most r goal) premises) covers not_always no
  where
    neither : (b c : Bool) → (b || c) ≡ true → b ≡ false → c ≡ false → ⊥
    neither true c h e f = absurd (cc)
    neither false c h e f = absurd (cc)
