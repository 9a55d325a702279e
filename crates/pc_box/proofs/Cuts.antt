-- Rows that a state meets cut no box of the state away.
use Rattle.std.proofs.Common.{◌≡◌, ◌≢◌, ◌∙◌, ℕ, ◌+◌, ◌≤◌, length, drop, slice_get, ap, ℤ, pos, ◌+ℤ◌, ◌*ℤ◌, ◌≤ℤ◌, Bool, true, false, cond, List, [], ◌∷◌, Some, None, refl, sym, subst, arith, inl, inr}
use Rattle.std.specs.Prelude.{◌⊎◌, ◌==◌, int_lt}
use Rattle.std.specs.List.{AllByRecursion as Each}
use Rattle.std.proofs.lemmas.Bool.Decides.{eqb_tells}
use Rattle.std.proofs.lemmas.Int.{ints}
use Rattle.std.proofs.lemmas.List.{drop_all}
use Rattle.pc_rows.proofs.Adding.{drop_got}
use Rattle.pc_rows.specs.Laws.{at}
use Rattle.pc_rows.specs.Linear.{Linear, State, Meets, MeetsAll}
use Rattle.pc_rows.specs.Readers.{terms_of, sum_over}
use Rattle.pc_box.specs.declared.interval.Interval.{Interval}
use Rattle.pc_box.specs.Intervals.{Holds, is_hollow, cut}
use Rattle.pc_box.specs.Boxes.{Bounded, Box, interval_at, HasBounds, HasBox, put}
use Rattle.pc_box.specs.Forward.{with_intervals, narrowed, cut_terms, cut_row, by_rows, cut_rows}
use Rattle.pc_box.proofs.Ends.{cutting_is_exact, not_hollow}
use Rattle.pc_box.proofs.Tables.{put_same, put_other}
use Rattle.pc_box.proofs.Walks.{value_is_walk, terms_are_some}

-- a variable with another interval that has its value
pub has_put : (bs : List Interval) (x : ℕ) (i : Interval) (s t : State) → HasBounds bs s → Holds i (at t x) → ((v : ℕ) → v ≢ x → at t v ≡ at s v) → HasBounds (put bs x i) t
has_put bs x i s t has here other v = by (eqb_tells v x)
  where
    by : (((v == x) ≡ true) × (v ≡ x)) ⊎ (((v == x) ≡ false) × (v ≢ x)) → Holds (interval_at (put bs x i) v) (at t v)
    by (inl e) = subst (λ (n : ℕ). Holds (interval_at (put bs x i) n) (at t n)) (sym e.1) (subst (λ (j : Interval). Holds j (at t x)) (sym (put_same bs x i)) here)
    by (inr e) = subst (λ (j : Interval). Holds j (at t v)) (sym (put_other bs x i v e.1)) (subst (Holds (interval_at bs v)) (sym (other v e.1)) (has v))

module _ (s : State) where
  has_narrowed : (b : Bounded) (x : ℕ) (i : Interval) → HasBounds b.intervals s → Holds i (at s x) → HasBox (narrowed b x i) s
  has_narrowed b x i has here = by (is_hollow i) (not_hollow i (at s x) here)
    where
      by : (h : Bool) → h ≡ false → HasBox (cond h None (Some (with_intervals b (put b.intervals x i)))) s
      by true e = absurd (cc)
      by false e = has_put b.intervals x i s s has here (λ v other. refl)

  pub has_cut_terms : (b : Bounded) (c : ℤ) (ts : List (ℕ × ℤ)) → HasBounds b.intervals s → Each (λ t. t.1 ≢ pos 0) ts → pos 0 ≤ℤ sum_over c ts s → HasBox (cut_terms b c ts) s
  has_cut_terms b c [] has some h = by (int_lt c (pos 0)) refl
    where
      by : (low : Bool) → int_lt c (pos 0) ≡ low → HasBox (cond low None (Some b)) s
      by true e = absurd (grind (arith, ints))
      by false e = has
  has_cut_terms b c (t ∷ []) has some h =
      let meets : pos 0 ≤ℤ (t.1 *ℤ at s t.0 +ℤ c) = omega (arith, ints) in
      has_narrowed b t.0 (cut t.1 c (interval_at b.intervals t.0)) has ((cutting_is_exact t.1 c (interval_at b.intervals t.0) (at s t.0) some.0).1 (has t.0, meets))
  has_cut_terms b c (t ∷ u ∷ ts) has some h = has

  pub has_cut_row : (b : Box) (r : Linear) → HasBox b s → Meets s r → HasBox (cut_row b r) s
  has_cut_row None r has meets = absurd has
  has_cut_row (Some b) r has meets = has_cut_terms b r.constant (terms_of r) has (terms_are_some r) (subst (λ (z : ℤ). pos 0 ≤ℤ z) (value_is_walk r s) meets)

  pub has_cut_rows : (b : Box) (rows : List Linear) → HasBox b s → MeetsAll s rows → HasBox (cut_rows b rows) s
  has_cut_rows b [] has meets = has
  has_cut_rows b (r ∷ rows) has meets = has_cut_rows (cut_row b r) rows (has_cut_row b r has meets.0) meets.1

-- ---- how a box is cut, row by row

pub one_term : (b : Bounded) (c : ℤ) (ts : List (ℕ × ℤ)) (t : ℕ × ℤ) → length ts ≡ 1 → slice_get ts 0 ≡ Some t → cut_terms b c ts ≡ narrowed b t.0 (cut t.1 c (interval_at b.intervals t.0))
one_term b c [] t long at = absurd (cc)
one_term b c (u ∷ []) t long at = let same : u ≡ t = cc in ap (λ (z : ℕ × ℤ). narrowed b z.0 (cut z.1 c (interval_at b.intervals z.0))) same
one_term b c (u ∷ w ∷ ts) t long at = absurd (omega arith)

module _ (step : Box → Linear → Box) where
  pub next_row : (rows : List Linear) (k : ℕ) (r : Linear) (b new whole : Box) → slice_get rows k ≡ Some r → new ≡ step b r → by_rows step b (drop k rows) ≡ whole → by_rows step new (drop (k + 1) rows) ≡ whole
  next_row rows k r b new whole at is h = ap (λ (z : Box). by_rows step z (drop (k + 1) rows)) is ∙ sym (ap (by_rows step b) (drop_got rows k r at)) ∙ h

  pub no_row : (rows : List Linear) (k : ℕ) (b whole : Box) → length rows ≤ k → by_rows step b (drop k rows) ≡ whole → b ≡ whole
  no_row rows k b whole le h = sym (ap (by_rows step b) (drop_all k rows le)) ∙ h
