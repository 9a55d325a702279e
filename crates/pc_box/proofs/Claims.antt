-- A cut box has exactly the states that meet the row; a box before an assertion has states alone that keep it.
use Rattle.std.proofs.Common.{◌≡◌, ◌≢◌, ◌≤◌, ℕ, ℤ, pos, ◌+ℤ◌, ◌*ℤ◌, ◌≤ℤ◌, Bool, true, false, cond, List, [], ◌∷◌, length, Option, Some, None, refl, sym, subst, arith, inl, inr}
use Rattle.std.specs.Prelude.{◌⊎◌, ◌==◌, int_lt}
use Rattle.std.specs.List.{AllByRecursion as Each}
use Rattle.std.proofs.lemmas.Bool.Decides.{eqb_tells}
use Rattle.std.proofs.lemmas.Int.{ints}
use Rattle.pc_rows.specs.Laws.{at}
use Rattle.pc_rows.specs.Linear.{Linear, State, value, Meets, MeetsAll}
use Rattle.pc_rows.specs.Readers.{terms_of, sum_over}
use Rattle.pc_rows.proofs.Ring.{le_refl_z}
use Rattle.pc_box.specs.declared.form.Side.TheVariants.{Least}
use Rattle.pc_box.specs.declared.interval.Interval.{Interval}
use Rattle.pc_box.specs.Intervals.{Holds, is_hollow, cut}
use Rattle.pc_box.specs.Boxes.{Bounded, Box, interval_at, HasBounds, HasBox, put}
use Rattle.pc_box.specs.Forms.{end_of_form}
use Rattle.pc_box.specs.Forward.{with_intervals, narrowed, cut_terms}
use Rattle.pc_box.specs.Backward.{is_not_negative, is_implied, claimed_terms, claimed_row, claimed_rows}
use Rattle.pc_box.specs.Exact.{IsOfOne}
use Rattle.pc_box.proofs.Cuts.{has_cut_row}
use Rattle.pc_box.proofs.Ends.{cutting_is_exact}
use Rattle.pc_box.proofs.Sums.{IsInside, form_inside}
use Rattle.pc_box.proofs.Tables.{put_same, put_other}
use Rattle.pc_box.proofs.Walks.{value_is_walk, terms_are_some}

pub put_tells : (bs : List Interval) (x : ℕ) (i : Interval) (s : State) → HasBounds (put bs x i) s → Holds i (at s x) × ((v : ℕ) → v ≢ x → Holds (interval_at bs v) (at s v))
put_tells bs x i s has = (
  subst (λ (j : Interval). Holds j (at s x)) (put_same bs x i) (has x),
  λ v other. subst (λ (j : Interval). Holds j (at s v)) (put_other bs x i v other) (has v),
)

module _ (s : State) where
  narrowed_tells : (b : Bounded) (x : ℕ) (i : Interval) → HasBox (narrowed b x i) s → HasBounds (put b.intervals x i) s
  narrowed_tells b x i = by (is_hollow i)
    where
      by : (h : Bool) → HasBox (cond h None (Some (with_intervals b (put b.intervals x i)))) s → HasBounds (put b.intervals x i) s
      by true h = absurd h
      by false h = h

  pub cut_tells : (b : Bounded) (x : ℕ) (a c : ℤ) → a ≢ pos 0 → HasBox (narrowed b x (cut a c (interval_at b.intervals x))) s → HasBounds b.intervals s × (pos 0 ≤ℤ (a *ℤ at s x +ℤ c))
  cut_tells b x a c some h = ((λ v. by v (eqb_tells v x)), law.1)
    where
      told : Holds (cut a c (interval_at b.intervals x)) (at s x) × ((v : ℕ) → v ≢ x → Holds (interval_at b.intervals v) (at s v))
      told = put_tells b.intervals x (cut a c (interval_at b.intervals x)) s (narrowed_tells b x (cut a c (interval_at b.intervals x)) h)

      law : Holds (interval_at b.intervals x) (at s x) × (pos 0 ≤ℤ (a *ℤ at s x +ℤ c))
      law = (cutting_is_exact a c (interval_at b.intervals x) (at s x) some).0 told.0

      by : (v : ℕ) → (((v == x) ≡ true) × (v ≡ x)) ⊎ (((v == x) ≡ false) × (v ≢ x)) → Holds (interval_at b.intervals v) (at s v)
      by v (inl e) = subst (λ (n : ℕ). Holds (interval_at b.intervals n) (at s n)) (sym e.1) law.0
      by v (inr e) = told.1 v e.1

  pub cut_terms_tells : (b : Bounded) (c : ℤ) (ts : List (ℕ × ℤ)) → Each (λ t. t.1 ≢ pos 0) ts → length ts ≤ 1 → HasBox (cut_terms b c ts) s →
      HasBounds b.intervals s × (pos 0 ≤ℤ sum_over c ts s)
  cut_terms_tells b c [] some few h = by (int_lt c (pos 0)) refl h
    where
      by : (low : Bool) → int_lt c (pos 0) ≡ low → HasBox (cond low None (Some b)) s → HasBounds b.intervals s × (pos 0 ≤ℤ c)
      by true e h = absurd h
      by false e h = (h, grind (arith, ints))
  cut_terms_tells b c (t ∷ []) some few h = let told = cut_tells b t.0 t.1 c some.0 h in (told.0, let meets = told.1 in omega (arith, ints))
  cut_terms_tells b c (t ∷ u ∷ ts) some few h = absurd (omega arith)

  implied_tells : (b : Bounded) (r : Linear) → HasBounds b.intervals s → is_implied b r ≡ true → Meets s r
  implied_tells b r has e = by (end_of_form Least b.intervals r (Some (pos 0))) (form_inside Least b.intervals s has r (Some (pos 0)) (pos 0) (le_refl_z (pos 0))) e
    where
      by : (o : Option ℤ) → IsInside Least o (value r s +ℤ pos 0) → is_not_negative o ≡ true → Meets s r
      by None inside e = absurd (cc)
      by (Some n) inside e =
          let low : pos 0 ≤ℤ n = grind (arith, ints) in
          let high : n ≤ℤ (value r s +ℤ pos 0) = inside in
          omega (arith, ints)

  claimed_terms_tells : (b : Bounded) (r : Linear) (ts : List (ℕ × ℤ)) → Each (λ t. t.1 ≢ pos 0) ts → value r s ≡ sum_over r.constant ts s → HasBox (claimed_terms b r ts) s →
      HasBounds b.intervals s × Meets s r
  claimed_terms_tells b r [] some whole h =
      let told = cut_terms_tells b r.constant [] some (omega arith) h in (told.0, subst (λ (z : ℤ). pos 0 ≤ℤ z) (sym whole) told.1)
  claimed_terms_tells b r (t ∷ []) some whole h =
      let told = cut_terms_tells b r.constant (t ∷ []) some (omega arith) h in (told.0, subst (λ (z : ℤ). pos 0 ≤ℤ z) (sym whole) told.1)
  claimed_terms_tells b r (t ∷ u ∷ ts) some whole h = by (is_implied b r) refl h
    where
      by : (w : Bool) → is_implied b r ≡ w → HasBox (cond w (Some b) None) s → HasBounds b.intervals s × Meets s r
      by true e h = (h, implied_tells b r h e)
      by false e h = absurd h

  claimed_row_tells : (b : Box) (r : Linear) → HasBox (claimed_row b r) s → HasBox b s × Meets s r
  claimed_row_tells None r h = absurd h
  claimed_row_tells (Some b) r h = claimed_terms_tells b r (terms_of r) (terms_are_some r) (value_is_walk r s) h

  -- the states of a box before an assertion are in the box, and keep the assertion
  pub claimed_rows_tell : (b : Box) (rows : List Linear) → HasBox (claimed_rows b rows) s → HasBox b s × MeetsAll s rows
  claimed_rows_tell b [] h = (h, tt)
  claimed_rows_tell b (r ∷ rows) h =
      let rest = claimed_rows_tell (claimed_row b r) rows h in
      let one = claimed_row_tells b r rest.0 in
      (one.0, (one.1, rest.1))

  -- ---- where no row has two variables it has all of them

  claimed_is_cut : (b : Bounded) (r : Linear) (ts : List (ℕ × ℤ)) → length ts ≤ 1 → cut_terms b r.constant ts ≡ claimed_terms b r ts
  claimed_is_cut b r [] few = refl
  claimed_is_cut b r (t ∷ []) few = refl
  claimed_is_cut b r (t ∷ u ∷ ts) few = absurd (omega arith)

  claimed_row_keeps : (b : Box) (r : Linear) → IsOfOne r → HasBox b s → Meets s r → HasBox (claimed_row b r) s
  claimed_row_keeps None r one has meets = absurd has
  claimed_row_keeps (Some b) r one has meets = subst (λ (z : Box). HasBox z s) (claimed_is_cut b r (terms_of r) one) (has_cut_row s (Some b) r has meets)

  pub claimed_rows_keep : (b : Box) (rows : List Linear) → Each IsOfOne rows → HasBox b s → MeetsAll s rows → HasBox (claimed_rows b rows) s
  claimed_rows_keep b [] one has meets = has
  claimed_rows_keep b (r ∷ rows) one has meets = claimed_rows_keep (claimed_row b r) rows one.1 (claimed_row_keeps b r one.0 has meets.0) meets.1
