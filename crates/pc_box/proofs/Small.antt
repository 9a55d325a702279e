-- The bounds of a box that is cut or met by small numbers stay small.
use Rattle.std.proofs.Common.{◌≡◌, ◌≢◌, ℕ, zero, suc, ◌<◌, ◌≤◌, min, ℤ, pos, negsuc, neg_ℤ, Bool, true, false, cond, List, [], ◌∷◌, length, Option, Some, None, refl, sym, subst, arith, inl, inr}
use Rattle.std.specs.Prelude.{◌⊎◌, ◌==◌, int_lt}
use Rattle.std.specs.Int.{int_div_euclid}
use Rattle.std.specs.List.{AllByRecursion as Each}
use Rattle.std.proofs.lemmas.Bool.Decides.{eqb_tells}
use Rattle.std.proofs.lemmas.Int.{ints}
use Rattle.pc_rows.specs.Bounds.{IsWithin, AllWithin}
use Rattle.pc_rows.specs.Laws.{EndIsWithin}
use Rattle.pc_rows.specs.Linear.{Linear}
use Rattle.pc_rows.specs.Readers.{terms_of}
use Rattle.pc_rows.proofs.Bounding.{lesser_within, opposite_within}
use Rattle.pc_box.specs.declared.form.Side.{Side}
use Rattle.pc_box.specs.declared.interval.Interval.{Interval}
use Rattle.pc_box.specs.Intervals.{is_hollow, greater, raised, lowered, cut}
use Rattle.pc_box.specs.Boxes.{Bounded, Box, interval_at, all_below, put}
use Rattle.pc_box.specs.Forward.{with_intervals, narrowed, cut_terms}
use Rattle.pc_box.specs.Meeting.{meet_least, meet_greatest, meets, is_solid_at, both_of}
use Rattle.pc_box.specs.Backward.{is_implied, claimed_terms, claimed_row, claimed_rows, signed, cut_form, may_be_zero, firsts, before_enter}
use Rattle.pc_box.proofs.Assigned.{signed_some}
use Rattle.pc_box.proofs.Ends.{cut_positive}
use Rattle.pc_box.proofs.Intersecting.{meets_at}
use Rattle.pc_box.proofs.Quotients.{quotient_within}
use Rattle.pc_box.proofs.Tables.{put_same, put_other, past_tabulated, at_tabulated, within_or_past}
use Rattle.pc_box.proofs.Walks.{terms_are_some}

-- the ends that are present are within the bound
abbrev pub IsSmall : ℕ → Interval → Type 0
IsSmall k i = EndIsWithin k i.least × EndIsWithin k i.greatest

abbrev pub AreSmall : ℕ → List Interval → Type 0
AreSmall k bs = (v : ℕ) → IsSmall k (interval_at bs v)

abbrev pub BoxIsSmall : ℕ → Box → Type 0
BoxIsSmall k None = Unit {0}
BoxIsSmall k (Some b) = AreSmall k b.intervals

end_more : (m k : ℕ) (o : Option ℤ) → m ≤ k → EndIsWithin m o → EndIsWithin k o
end_more m k None le h = tt
end_more m k (Some n) le h = omega arith

pub box_more : (m k : ℕ) (b : Box) → m ≤ k → BoxIsSmall m b → BoxIsSmall k b
box_more m k None le h = tt
box_more m k (Some b) le h = λ v. (end_more m k (interval_at b.intervals v).least le (h v).0, end_more m k (interval_at b.intervals v).greatest le (h v).1)

module _ (k : ℕ) where
  -- ---- cuts

  greater_within : (a b : ℤ) → IsWithin k a → IsWithin k b → IsWithin k (greater a b)
  greater_within a b h g = by (int_lt a b)
    where
      by : (t : Bool) → IsWithin k (cond t b a)
      by true = g
      by false = h

  raised_within : (m : Option ℤ) (n : ℤ) → EndIsWithin k m → IsWithin k n → IsWithin k (raised m n)
  raised_within None n h g = g
  raised_within (Some m) n h g = greater_within m n h g

  lowered_within : (m : Option ℤ) (n : ℤ) → EndIsWithin k m → IsWithin k n → IsWithin k (lowered m n)
  lowered_within None n h g = g
  lowered_within (Some m) n h g = lesser_within k m n h g

  cut_small : (a c : ℤ) (i : Interval) → a ≢ pos 0 → IsWithin k c → IsSmall k i → IsSmall k (cut a c i)
  cut_small (pos zero) c i some h small = absurd (some refl)
  cut_small (pos (suc n)) c i some h small =
      subst (IsSmall k) (sym (cut_positive n c i))
      (raised_within i.least (neg_ℤ (int_div_euclid c (pos (suc n)))) small.0 (opposite_within k (int_div_euclid c (pos (suc n))) (quotient_within k c (pos (suc n)) (omega (arith, ints)) h)), small.1)
  cut_small (negsuc n) c i some h small =
      (small.0, lowered_within i.greatest (int_div_euclid c (pos (suc n))) small.1 (quotient_within k c (pos (suc n)) (omega (arith, ints)) h))

  pub put_small : (bs : List Interval) (x : ℕ) (i : Interval) → AreSmall k bs → IsSmall k i → AreSmall k (put bs x i)
  put_small bs x i all small v = by (eqb_tells v x)
    where
      by : (((v == x) ≡ true) × (v ≡ x)) ⊎ (((v == x) ≡ false) × (v ≢ x)) → IsSmall k (interval_at (put bs x i) v)
      by (inl e) = subst (λ (n : ℕ). IsSmall k (interval_at (put bs x i) n)) (sym e.1) (subst (IsSmall k) (sym (put_same bs x i)) small)
      by (inr e) = subst (IsSmall k) (sym (put_other bs x i v e.1)) (all v)

  narrowed_small : (b : Bounded) (x : ℕ) (i : Interval) → AreSmall k b.intervals → IsSmall k i → BoxIsSmall k (narrowed b x i)
  narrowed_small b x i all small = by (is_hollow i)
    where
      by : (t : Bool) → BoxIsSmall k (cond t None (Some (with_intervals b (put b.intervals x i))))
      by true = tt
      by false = put_small b.intervals x i all small

  either_small : (t : Bool) (b : Box) → BoxIsSmall k b → BoxIsSmall k (cond t b None) × BoxIsSmall k (cond t None b)
  either_small true b h = (h, tt)
  either_small false b h = (tt, h)

  cut_terms_small : (b : Bounded) (c : ℤ) (ts : List (ℕ × ℤ)) → Each (λ t. t.1 ≢ pos 0) ts → IsWithin k c → AreSmall k b.intervals → BoxIsSmall k (cut_terms b c ts)
  cut_terms_small b c [] some h all = (either_small (int_lt c (pos 0)) (Some b) all).1
  cut_terms_small b c (t ∷ []) some h all = narrowed_small b t.0 (cut t.1 c (interval_at b.intervals t.0)) all (cut_small t.1 c (interval_at b.intervals t.0) some.0 h (all t.0))
  cut_terms_small b c (t ∷ u ∷ ts) some h all = all

  -- ---- assertions

  claimed_terms_small : (b : Bounded) (r : Linear) (ts : List (ℕ × ℤ)) → Each (λ t. t.1 ≢ pos 0) ts → IsWithin k r.constant → AreSmall k b.intervals → BoxIsSmall k (claimed_terms b r ts)
  claimed_terms_small b r [] some h all = cut_terms_small b r.constant [] some h all
  claimed_terms_small b r (t ∷ []) some h all = cut_terms_small b r.constant (t ∷ []) some h all
  claimed_terms_small b r (t ∷ u ∷ ts) some h all = (either_small (is_implied b r) (Some b) all).0

  claimed_row_small : (b : Box) (r : Linear) → IsWithin k r.constant → BoxIsSmall k b → BoxIsSmall k (claimed_row b r)
  claimed_row_small None r h all = tt
  claimed_row_small (Some b) r h all = claimed_terms_small b r (terms_of r) (terms_are_some r) h all

  pub claimed_rows_small : (m : ℕ) (b : Box) (rows : List Linear) → m ≤ k → AllWithin m rows → BoxIsSmall k b → BoxIsSmall k (claimed_rows b rows)
  claimed_rows_small m b [] le h all = all
  claimed_rows_small m b (r ∷ rows) le h all =
      claimed_rows_small m (claimed_row b r) rows le h.1 (claimed_row_small b r (let c = h.0.constant in omega arith) all)

  -- ---- assignments

  pub cut_form_small : (side : Side) (b : Box) (o : Option ℤ) (ts : List (ℕ × ℤ)) → Each (λ t. t.1 ≢ pos 0) ts → EndIsWithin k o → BoxIsSmall k b → BoxIsSmall k (cut_form side b o ts)
  cut_form_small side None o ts some h all = tt
  cut_form_small side (Some b) None ts some h all = tt
  cut_form_small side (Some b) (Some c) [] some h all = cut_terms_small b c [] tt h all
  cut_form_small side (Some b) (Some c) (t ∷ []) some h all = cut_terms_small b c ((t.0, signed side t.1) ∷ []) (signed_some side t.1 some.0, tt) h all
  cut_form_small side (Some b) (Some c) (t ∷ u ∷ ts) some h all = tt

  -- ---- intersections

  meet_small : (i j : Interval) → IsSmall k i → IsSmall k j → EndIsWithin k (meet_least i.least j.least) × EndIsWithin k (meet_greatest i.greatest j.greatest)
  meet_small i j h g = (low i.least j.least h.0 g.0, high i.greatest j.greatest h.1 g.1)
    where
      low : (m n : Option ℤ) → EndIsWithin k m → EndIsWithin k n → EndIsWithin k (meet_least m n)
      low m None h g = h
      low m (Some n) h g = raised_within m n h g

      high : (m n : Option ℤ) → EndIsWithin k m → EndIsWithin k n → EndIsWithin k (meet_greatest m n)
      high m None h g = h
      high m (Some n) h g = lowered_within m n h g

  pub both_small : (a b : Box) → BoxIsSmall k a → BoxIsSmall k b → BoxIsSmall k (both_of a b)
  both_small None b h g = tt
  both_small (Some a) None h g = tt
  both_small (Some a) (Some b) h g =
      (either_small (all_below (is_solid_at (meets a.intervals b.intervals)) (length (meets a.intervals b.intervals))) (Some (with_intervals a (meets a.intervals b.intervals)))
      (λ v. subst (IsSmall k) (sym (meets_at a.intervals b.intervals v)) (meet_small (interval_at a.intervals v) (interval_at b.intervals v) (h v) (g v)))).0

  -- ---- the entry

  pub before_enter_small : (params : ℕ) (b : Bounded) → AreSmall k b.intervals → BoxIsSmall k (before_enter params b)
  before_enter_small params b all =
      (either_small (all_below (may_be_zero params b.intervals) (length b.intervals)) (Some (with_intervals b (firsts params b.intervals))) (λ v. by v (within_or_past n v))).0
    where
      n : ℕ
      n = min params (length b.intervals)

      by : (v : ℕ) → (v < n) ⊎ (n ≤ v) → IsSmall k (interval_at (firsts params b.intervals) v)
      by v (inl lt) = subst (IsSmall k) (sym (at_tabulated (interval_at b.intervals) n v lt)) (all v)
      by v (inr past) = subst (IsSmall k) (sym (past_tabulated (interval_at b.intervals) n v past)) (tt, tt)
