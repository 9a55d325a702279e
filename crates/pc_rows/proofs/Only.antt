-- Rows over the first variables: no operation brings a variable that its rows have not.
use Rattle.std.proofs.Common.{◌≡◌, ℕ, zero, suc, ◌≤◌, ℤ, pos, ◌*ℤ◌, neg_ℤ, refl, ap, ◌∙◌, arith, List, [], ◌∷◌, ◌++◌, get_or, set, Bool, true, false, cond, Option}
use Rattle.std.specs.List.{AllByRecursion}
use Rattle.std.proofs.lemmas.Int.{ints}
use Rattle.std.proofs.Math.IntN.{*ℤ-zero}
use Rattle.pc_rows.specs.Linear.{Linear, coefficient, add_lists, scale_list, negate_list, zero_from, is_zero, IsOver}
use Rattle.pc_rows.specs.declared.row.TheConstants.{VARIABLES}
use Rattle.pc_rows.specs.Substitution.{carried, needs_open_end, never_row}
use Rattle.pc_rows.specs.Joins.{with_row, is_covered}
use Rattle.pc_rows.specs.Laws.{FirstIsOver, SubstitutedIsOver, DifferenceIsOver, NegationIsOver, JoinIsOver}
use Rattle.pc_rows.proofs.Algebra.{get_or-add_lists, get_or-scale_list, get_or-negate_list, get_or-zeros}
use Rattle.pc_rows.proofs.Joining.{each_join}

pub zero_from_at : (n : ℕ) (zs : List ℤ) (v : ℕ) → n ≤ v → get_or (zero_from n zs) v (pos 0) ≡ pos 0
zero_from_at n [] v h = refl
zero_from_at zero (z ∷ zs) zero h = refl
zero_from_at zero (z ∷ zs) (suc v) h = zero_from_at zero zs v (omega arith)
zero_from_at (suc n) (z ∷ zs) zero h = absurd (omega arith)
zero_from_at (suc n) (z ∷ zs) (suc v) h = zero_from_at n zs v (omega arith)

set_at : (zs : List ℤ) (x v : ℕ) → get_or zs v (pos 0) ≡ pos 0 → get_or (set zs x (pos 0)) v (pos 0) ≡ pos 0
set_at [] x v h = refl
set_at (z ∷ zs) zero zero h = refl
set_at (z ∷ zs) zero (suc v) h = h
set_at (z ∷ zs) (suc x) zero h = h
set_at (z ∷ zs) (suc x) (suc v) h = set_at zs x v h

added_at : (a b : List ℤ) (v : ℕ) → get_or a v (pos 0) ≡ pos 0 → get_or b v (pos 0) ≡ pos 0 → get_or (add_lists a b) v (pos 0) ≡ pos 0
added_at a b v h g = get_or-add_lists a b v ∙ (let e = h in let f = g in omega (arith, ints))

scaled_at : (k : ℤ) (a : List ℤ) (v : ℕ) → get_or a v (pos 0) ≡ pos 0 → get_or (scale_list k a) v (pos 0) ≡ pos 0
scaled_at k a v h = get_or-scale_list k a v ∙ ap (λ (z : ℤ). k *ℤ z) h ∙ *ℤ-zero k

opposite_at : (a : List ℤ) (v : ℕ) → get_or a v (pos 0) ≡ pos 0 → get_or (negate_list a) v (pos 0) ≡ pos 0
opposite_at a v h = get_or-negate_list a v ∙ ap neg_ℤ h

pub first_is_over : FirstIsOver
first_is_over n r v h = zero_from_at n r.coefficients v h

pub difference_is_over : DifferenceIsOver
difference_is_over n a b f g v h = added_at a.coefficients (negate_list b.coefficients) v (f v h) (opposite_at b.coefficients v (g v h))

pub negation_is_over : NegationIsOver
negation_is_over n r f v h = opposite_at r.coefficients v (f v h)

carried_is_over : (n : ℕ) (r form : Linear) (x : ℕ) (lo hi : Option ℤ) → IsOver n r → IsOver n form → IsOver n (carried r x form lo hi)
carried_is_over n r form x lo hi f g v h =
    added_at (scale_list (coefficient r x) form.coefficients) (set r.coefficients x (pos 0)) v
    (scaled_at (coefficient r x) form.coefficients v (g v h))
    (set_at r.coefficients x v (f v h))

by_case : (n : ℕ) (r form : Linear) (x : ℕ) (lo hi : Option ℤ) (none is_open : Bool) → IsOver n r → IsOver n form → IsOver n (cond none r (cond is_open never_row (carried r x form lo hi)))
by_case n r form x lo hi true is_open f g = f
by_case n r form x lo hi false true f g = λ v h. get_or-zeros VARIABLES v
by_case n r form x lo hi false false f g = carried_is_over n r form x lo hi f g

pub substituted_is_over : SubstitutedIsOver
substituted_is_over n r form x lo hi f g = by_case n r form x lo hi (is_zero (coefficient r x)) (needs_open_end (coefficient r x) lo hi) f g

with_row_is_over : (n : ℕ) (rows : List Linear) (r : Linear) (t : Bool) → AllByRecursion (IsOver n) rows → IsOver n r → AllByRecursion (IsOver n) (cond t rows (rows ++ r ∷ []))
with_row_is_over n rows r true h g = h
with_row_is_over n rows r false h g = each_join (IsOver n) rows (r ∷ []) h (g, tt)

pub join_is_over : JoinIsOver
join_is_over n a [] h g = h
join_is_over n a (r ∷ more) h g = join_is_over n (with_row a r) more (with_row_is_over n a r (is_covered r a) h g.0) g.1
