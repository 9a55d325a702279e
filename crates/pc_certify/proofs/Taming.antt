-- Where numbers are tame all that is computed for the proofs of rows is in range.
use Rattle.std.proofs.Common.{◌≡◌, ℕ, zero, suc, ◌+◌, ◌*◌, ℤ, pos, negsuc, ◌+ℤ◌, ◌*ℤ◌, neg_ℤ, List, [], ◌∷◌, set, subst, arith, Bool, true, false, cond, Option, Some, ◌≤◌, inl, inr}
use Rattle.std.specs.List.{AllByRecursion, find}
use Rattle.std.proofs.lemmas.Int.{ints}
use Rattle.pc_rows.specs.Linear.{Linear, coefficient, is_zero, add_lists, scale_list, negate_list, zero_from, negation}
use Rattle.pc_rows.specs.Bounds.{IsWithin, AreWithin, Within, AllWithin}
use Rattle.pc_rows.specs.Joins.{is_at_most}
use Rattle.pc_rows.specs.Modest.{IsModest}
use Rattle.pc_rows.specs.Substitution.{carried, never_row, least_product, needs_open_end}
use Rattle.pc_rows.specs.Laws.{EndIsWithin}
use Rattle.pc_rows.specs.declared.row.TheConstants.{VARIABLES}
use Rattle.pc_rows.proofs.Bounding.{product_within, sum_within, opposite_within, least_within, within_in_range, more_within, scale_within, add_within, negate_within, at_within, set_within, small_substitution_fits, zeros_within as no_terms_within}
use Rattle.pc_language.specs.Ends.{end_of}
use Rattle.pc_elim.proofs.SmallRows.{row_more, row_in_range}
use Rattle.pc_flow.specs.declared.what.What.{What}
use Rattle.pc_flow.specs.declared.what.What.TheVariants.{Enter, Test, Set, Check}
use Rattle.pc_flow.specs.Carry.{BackFits, back}
use Rattle.pc_flow.specs.Lists.{AnyOf}
use Rattle.pc_lower.specs.Tame.{tame_bound, HasTameNumbers}
use Rattle.pc_entail.specs.Showing.{question, IsShown}
use Rattle.pc_certify.specs.Causes.{IsPast, RowFails}

-- rows carried back

zeros_within : (m n : ℕ) (zs : List ℤ) → AreWithin m zs → AreWithin m (zero_from n zs)
zeros_within m n [] h = tt
zeros_within m zero (z ∷ zs) h = (omega (arith, ints), zeros_within m zero zs h.1)
zeros_within m (suc n) (z ∷ zs) h = (h.0, zeros_within m n zs h.1)

-- the bound of a row that is carried back, from that of the numbers that it is made of
abbrev carried_bound : ℕ → ℕ
carried_bound m = m + m * m + m * m

carried_within : (m : ℕ) (r form : Linear) (x : ℕ) (lo hi : Option ℤ) → Within m r → Within m form → EndIsWithin m lo → EndIsWithin m hi → Within (carried_bound m) (carried r x form lo hi)
carried_within m r form x lo hi hr hf hl hh =
    let c = coefficient r x in
    let hc = at_within m r.coefficients x hr.coefficients in
    let product = product_within m m c form.constant hc hf.constant in
    let zero_is_within : IsWithin m (pos 0) = omega (arith, ints) in
    record {
      constant = sum_within (m + m * m) (m * m) (r.constant +ℤ c *ℤ form.constant) (least_product c lo hi)
          (sum_within m (m * m) r.constant (c *ℤ form.constant) hr.constant product) (least_within m c lo hi hc hl hh);
      coefficients = more_within (m * m + m) (carried_bound m) (add_lists (scale_list c form.coefficients) (set r.coefficients x (pos 0))) (omega arith)
          (add_within (m * m) m (scale_list c form.coefficients) (set r.coefficients x (pos 0)) (scale_within m m c form.coefficients hc hf.coefficients)
          (set_within m r.coefficients x (pos 0) hr.coefficients zero_is_within));
    }

never_within : (m : ℕ) → 1 ≤ m → Within m never_row
never_within m one = record { constant = omega (arith, ints); coefficients = no_terms_within m VARIABLES }

substituted_within : (m : ℕ) (r form : Linear) (x : ℕ) (lo hi : Option ℤ) (none is_open : Bool) → 1 ≤ m → Within m r → Within m form → EndIsWithin m lo → EndIsWithin m hi →
    Within (carried_bound m) (cond none r (cond is_open never_row (carried r x form lo hi)))
substituted_within m r form x lo hi true is_open one hr hf hl hh = row_more m (carried_bound m) r (omega arith) hr
substituted_within m r form x lo hi false true one hr hf hl hh = row_more m (carried_bound m) never_row (omega arith) (never_within m one)
substituted_within m r form x lo hi false false one hr hf hl hh = carried_within m r form x lo hi hr hf hl hh

back_within : (w : What) (r : Linear) → HasTameNumbers w → Within tame_bound r → Within (carried_bound tame_bound) (back w r)
back_within (Enter params) r tame h =
    row_more tame_bound (carried_bound tame_bound) (back (Enter params) r) (omega arith) record { constant = h.constant; coefficients = zeros_within tame_bound params r.coefficients h.coefficients }
back_within (Test own) r tame h = row_more tame_bound (carried_bound tame_bound) r (omega arith) h
back_within (Check own) r tame h = row_more tame_bound (carried_bound tame_bound) r (omega arith) h
back_within (Set x form lo hi) r tame h = substituted_within tame_bound r form x (end_of lo) (end_of hi) (is_zero (coefficient r x)) (needs_open_end (coefficient r x) (end_of lo) (end_of hi)) (omega arith) h tame.0 tame.1 tame.2

back_fits : (w : What) (r : Linear) → HasTameNumbers w → Within tame_bound r → BackFits w r
back_fits (Enter params) r tame h = tt
back_fits (Test own) r tame h = tt
back_fits (Check own) r tame h = tt
back_fits (Set x form lo hi) r tame h = small_substitution_fits tame_bound r form x (end_of lo) (end_of hi) (omega arith) h tame.0 tame.1 tame.2

-- their negations

negation_within : (m : ℕ) (r : Linear) → Within m r → Within (m + 1) (negation r)
negation_within m r h =
    let one : IsWithin 1 (negsuc 0) = omega (arith, ints) in
    record {
      constant = sum_within m 1 (neg_ℤ r.constant) (negsuc 0) (opposite_within m r.constant h.constant) one;
      coefficients = more_within m (m + 1) (negate_list r.coefficients) (omega arith) (negate_within m r.coefficients h.coefficients);
    }

each_found : {A : Type 0} (P : A → Type 0) (p : A → Bool) (xs : List A) (x : A) → AllByRecursion P xs → find p xs ≡ Some x → P x
each_found P p [] x h e = absurd (cc)
each_found P p (y ∷ xs) x h e = by (p y) e (λ f. each_found P p xs x h.1 f)
  where
    by : (t : Bool) → cond t (Some y) (find p xs) ≡ Some x → (find p xs ≡ Some x → P x) → P x
    by true e more = let same : y ≡ x = cc in subst P same h.0
    by false e more = more e

-- a row that is owed is in range
not_past : (w : What) (r : Linear) → HasTameNumbers w → Within tame_bound r → IsPast w r → ⊥
not_past w r tame h (inl past) = past (back_fits w r tame h)
not_past w r tame h (inr past) =
    past (row_in_range (carried_bound tame_bound + 1) (negation (back w r)) (omega arith) (negation_within (carried_bound tame_bound) (back w r) (back_within w r tame h)))

row_holds : (w : What) (rows : List Linear) (r : Linear) → HasTameNumbers w → AllWithin tame_bound rows → Within tame_bound r → RowFails false w rows r → ⊥
row_holds w rows r tame within h (inl past) = not_past w r tame h past
row_holds w rows r tame within h (inr (a, found, past)) =
    let negated = (negation_within (carried_bound tame_bound) (back w r) (back_within w r tame h)).constant in
    let cover = (each_found (Within tame_bound) (λ q. is_at_most q (back w r)) rows a within found).constant in
    past (within_in_range (carried_bound tame_bound + 1 + tame_bound) ((negation (back w r)).constant +ℤ a.constant) (omega arith)
    (sum_within (carried_bound tame_bound + 1) tame_bound (negation (back w r)).constant a.constant negated cover))

pub rows_hold : (w : What) (all rows : List Linear) → HasTameNumbers w → AllWithin tame_bound all → AllWithin tame_bound rows → AnyOf (RowFails false w all) rows → ⊥
rows_hold w all [] tame premises h any = any
rows_hold w all (r ∷ rows) tame premises h (inl fails) = row_holds w all r tame premises h.0 fails
rows_hold w all (r ∷ rows) tame premises h (inr any) = rows_hold w all rows tame premises h.1 any

-- over an edge from a head they are shown, and asked modestly
pub shown_rows_hold : (w : What) (all rows : List Linear) → HasTameNumbers w → AllWithin tame_bound rows → AllByRecursion (λ r. IsShown all (back w r)) rows →
    AllByRecursion (λ r. IsModest (question all (back w r))) rows → AnyOf (RowFails true w all) rows → ⊥
shown_rows_hold w all [] tame h shown modest any = any
shown_rows_hold w all (r ∷ rows) tame h shown modest (inl (inl past)) = not_past w r tame h.0 past
shown_rows_hold w all (r ∷ rows) tame h shown modest (inl (inr (inl immodest))) = immodest modest.0
shown_rows_hold w all (r ∷ rows) tame h shown modest (inl (inr (inr unshown))) = unshown shown.0
shown_rows_hold w all (r ∷ rows) tame h shown modest (inr any) = shown_rows_hold w all rows tame h.1 shown.1 modest.1 any
