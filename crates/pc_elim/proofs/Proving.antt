-- Multipliers by place as a proof with named premises: the same total.
use Rattle.std.proofs.Common.{◌≡◌, ℕ, zero, suc, ◌+◌, ◌<◌, ℤ, pos, negsuc, refl, sym, subst, ◌∙◌, ap, arith, ◌≤ℤ◌, List, [], ◌∷◌, ◌++◌, Bool, true, false, cond, length, get_or, take, drop}
use Rattle.std.specs.List.{AllByRecursion, list_all}
use Rattle.std.proofs.lemmas.Int.{ints}
use Rattle.std.proofs.lemmas.List.{drop_more}
use Rattle.pc_rows.specs.Linear.{Linear, sum_of, scaled_by, negation, is_zero}
use Rattle.pc_rows.specs.Parts.{parts_from}
use Rattle.pc_rows.specs.Shows.{nothing_row, with_parts, total, Shows}
use Rattle.pc_rows.proofs.Lists.{zero_is}
use Rattle.pc_rows.proofs.Joining.{number_is_meant}
use Rattle.pc_rows.proofs.PartLists.{part, parts_have, parts_within}
use Rattle.pc_rows.proofs.Algebra.{row_assoc, row_comm, nothing_left, nothing_right, length-add_lists, length-scale_list, length-negate_list}
use Rattle.pc_elim.specs.Elimination.{combination}
use Rattle.pc_elim.specs.Settling.{proof_of}
use Rattle.pc_elim.proofs.Soundness.{Contradicts, combination-none}
use Rattle.pc_elim.proofs.Starting.{Long, nothing_zero, plus_nothing, drop_next}

-- the rows in two parts
combination-join : (ms : List ℤ) (as' bs : List Linear) → combination ms (as' ++ bs) ≡ sum_of (combination ms as') (combination (drop (length as') ms) bs)
combination-join [] [] bs = sym (nothing_left nothing_row)
combination-join [] (a ∷ as') bs = sym (nothing_left nothing_row)
combination-join (m ∷ ms) [] bs = sym (nothing_left (combination (m ∷ ms) bs))
combination-join (m ∷ ms) (a ∷ as') bs =
    ap (λ (z : Linear). sum_of (scaled_by m a) z) (combination-join ms as' bs)
    ∙ sym (row_assoc (scaled_by m a) (combination ms as') (combination (drop (length as') ms) bs))

-- the last row
combination-last : (ms : List ℤ) (rows : List Linear) (r : Linear) → length rows < length ms →
    combination ms (rows ++ r ∷ []) ≡ sum_of (combination ms rows) (scaled_by (get_or ms (length rows) (pos 0)) r)
combination-last ms rows r lt =
    let n = length rows in
    let m = get_or ms n (pos 0) in
    let rest = drop (n + 1) ms in
    let e : drop n ms ≡ m ∷ rest = drop_more ms n (pos 0) lt in
    combination-join ms rows (r ∷ [])
    ∙ ap (λ (z : Linear). sum_of (combination ms rows) z)
    (ap (λ (z : List ℤ). combination z (r ∷ [])) e
    ∙ ap (λ (z : Linear). sum_of (scaled_by m r) z) (combination-none rest)
    ∙ nothing_right (scaled_by m r))

long_sum : (a b : Linear) → Long a → Long b → Long (sum_of a b)
long_sum a b h g = length-add_lists a.coefficients b.coefficients (h ∙ sym g) ∙ h

long_scaled : (k : ℤ) (r : Linear) → Long r → Long (scaled_by k r)
long_scaled k r h = length-scale_list k r.coefficients ∙ h

pub long_negation : (r : Linear) → Long r → Long (negation r)
long_negation r h = length-negate_list r.coefficients ∙ h

at_front : (premises : List Linear) (i : ℕ) (r : Linear) (more : List Linear) → drop i premises ≡ r ∷ more → get_or premises i nothing_row ≡ r
at_front [] zero r more e = cc
at_front [] (suc i) r more e = cc
at_front (q ∷ premises) zero r more e = cc
at_front (q ∷ premises) (suc i) r more e = at_front premises i r more e

-- a multiplier of 0 makes no part, and adds nothing
skipped : (m : ℤ) (r sum rest : Linear) → Long r → Long sum → is_zero m ≡ true → sum_of sum rest ≡ sum_of sum (sum_of (scaled_by m r) rest)
skipped m r sum rest long long' e =
    let z : scaled_by m r ≡ scaled_by (pos 0) r = ap (λ (k : ℤ). scaled_by k r) (zero_is m e) in
    ap (λ (x : Linear). sum_of x rest) (sym (plus_nothing sum (scaled_by (pos 0) r) long' (nothing_zero r long)))
    ∙ row_assoc sum (scaled_by (pos 0) r) rest
    ∙ ap (λ (x : Linear). sum_of sum (sum_of x rest)) (sym z)

-- the parts add up to the combination
parts_total : (premises rows : List Linear) (i : ℕ) (ms : List ℤ) (sum : Linear) → Long sum → AllByRecursion Long rows → drop i premises ≡ rows →
    with_parts premises sum (parts_from i (take (length rows) ms)) ≡ sum_of sum (combination ms rows)
parts_total premises [] i ms sum long h e = sym (ap (λ (z : Linear). sum_of sum z) (combination-none ms) ∙ nothing_right sum)
parts_total premises (r ∷ rows) i [] sum long h e = sym (nothing_right sum)
parts_total premises (r ∷ rows) i (m ∷ ms) sum long h e = by_zero (is_zero m) refl
    (λ s k. parts_total premises rows (i + 1) ms s k h.1 (drop_next i premises r rows e))
  where
    by_zero : (t : Bool) → is_zero m ≡ t →
        ((s : Linear) → Long s → with_parts premises s (parts_from (i + 1) (take (length rows) ms)) ≡ sum_of s (combination ms rows)) →
        with_parts premises sum (cond t (parts_from (i + 1) (take (length rows) ms)) (part i m ∷ parts_from (i + 1) (take (length rows) ms))) ≡ sum_of sum (sum_of (scaled_by m r) (combination ms rows))
    by_zero true z go = go sum long ∙ skipped m r sum (combination ms rows) h.0 long z
    by_zero false z go =
        ap (λ (x : Linear). with_parts premises (sum_of sum (scaled_by m x)) (parts_from (i + 1) (take (length rows) ms))) (at_front premises i r rows e)
        ∙ go (sum_of sum (scaled_by m r)) (long_sum sum (scaled_by m r) long (long_scaled m r h.0))
        ∙ row_assoc sum (scaled_by m r) (combination ms rows)

pub total_is : (premises : List Linear) (goal : Linear) (ms : List ℤ) → AllByRecursion Long premises → Long goal → length premises < length ms →
    total premises goal (proof_of (length premises) ms) ≡ combination ms (premises ++ negation goal ∷ [])
total_is premises goal ms h g lt =
    let m = get_or ms (length premises) (pos 0) in
    parts_total premises premises 0 ms (scaled_by m (negation goal)) (long_scaled m (negation goal) (long_negation goal g)) h refl
    ∙ row_comm (scaled_by m (negation goal)) (combination ms premises)
    ∙ sym (combination-last ms premises (negation goal) lt)

get_each : (P : ℤ → Type 0) (ms : List ℤ) (i : ℕ) → P (pos 0) → AllByRecursion P ms → P (get_or ms i (pos 0))
get_each P [] i z h = z
get_each P (m ∷ ms) zero z h = h.0
get_each P (m ∷ ms) (suc i) z h = get_each P ms i z h.1

-- multipliers that make a contradiction show the goal
pub contradiction_shows : (premises : List Linear) (goal : Linear) (ms : List ℤ) → AllByRecursion Long premises → Long goal → length premises < length ms →
    Contradicts (premises ++ negation goal ∷ []) ms → Shows premises goal (proof_of (length premises) ms)
contradiction_shows premises goal ms h g lt c =
    let e = total_is premises goal ms h g lt in
    record {
      goal_multiplier = get_each (λ m. pos 0 ≤ℤ m) ms (length premises) (omega (arith, ints)) c.not_negative;
      multipliers = parts_have (λ m. pos 0 ≤ℤ m) (length premises) ms c.not_negative;
      indices = parts_within (length premises) ms;
      left = (number_is_meant (total premises goal (proof_of (length premises) ms))).0 (ap (λ (z : Linear). list_all is_zero z.coefficients) e ∙ c.left);
      below = subst (λ (z : Linear). z.constant ≤ℤ negsuc 0) (sym e) c.below;
    }
