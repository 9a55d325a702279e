-- What an assignment asks for a box is enough: it leads into the box alone.
use Rattle.std.proofs.Common.{◌≡◌, ◌≢◌, ◌∙◌, ℕ, ◌<◌, ℤ, pos, ◌+ℤ◌, ◌-ℤ◌, ◌*ℤ◌, neg_ℤ, ◌≤ℤ◌, Bool, true, false, cond, List, [], ◌∷◌, length, Option, Some, None, refl, sym, ap, subst, arith, inl, inr}
use Rattle.std.specs.Prelude.{◌⊎◌, ◌==◌, slice_set}
use Rattle.std.specs.List.{AllByRecursion as Each}
use Rattle.std.proofs.lemmas.Bool.Decides.{eqb_tells}
use Rattle.std.proofs.lemmas.Int.{ints}
use Rattle.std.proofs.lemmas.List.{get_or-set_same, get_or-set_other}
use Rattle.pc_rows.specs.Laws.{at}
use Rattle.pc_rows.specs.Linear.{Linear, State, value, in_range}
use Rattle.pc_rows.specs.Readers.{terms_of, sum_over}
use Rattle.pc_rows.specs.Substitution.{IsNotBelow, IsNotAbove}
use Rattle.pc_rows.proofs.Ring.{mul_comm, mul_neg}
use Rattle.pc_box.specs.declared.form.Side.{Side}
use Rattle.pc_box.specs.declared.form.Side.TheVariants.{Least, Greatest}
use Rattle.pc_box.specs.Intervals.{free, Holds}
use Rattle.pc_box.specs.Boxes.{Bounded, Box, interval_at, HasBounds, HasBox}
use Rattle.pc_box.specs.Forms.{kept, plus_choice}
use Rattle.pc_box.specs.Backward.{distance, gap, signed, cut_form, asked, freed, before_set}
use Rattle.pc_box.proofs.Claims.{put_tells, cut_tells, cut_terms_tells}
use Rattle.pc_box.proofs.Sums.{IsInside}
use Rattle.pc_box.proofs.Walks.{value_is_walk, terms_are_some}

-- there is an end of the choice, and the form with it keeps to the number that is wanted, if one is
abbrev pub IsAsked : Side → Linear → Option ℤ → Option ℤ → State → Type 0
IsAsked side form choice None s = Unit {0}
IsAsked side form choice (Some n) s = (e : ℤ) × (choice ≡ Some e) × IsInside side (Some n) (value form s +ℤ e)

kept_is : (z k : ℤ) → kept z ≡ Some k → k ≡ z
kept_is z k = by (in_range z)
  where
    by : (b : Bool) → cond b (Some z) None ≡ Some k → k ≡ z
    by true e = cc
    by false e = absurd (cc)

gap_tells : (side : Side) (c : ℤ) (choice : Option ℤ) (n k : ℤ) → gap side (plus_choice (Some c) choice) n ≡ Some k → (e : ℤ) × (choice ≡ Some e) × (k ≡ distance side (c +ℤ e) n)
gap_tells side c None n k h = absurd (cc)
gap_tells side c (Some e) n k h = by (kept (c +ℤ e)) refl h
  where
    by : (o : Option ℤ) → kept (c +ℤ e) ≡ o → gap side o n ≡ Some k → (m : ℤ) × (Some e ≡ Some m) × (k ≡ distance side (c +ℤ m) n)
    by None is h = absurd (cc)
    by (Some m) is h = (e, refl, kept_is (distance side m n) k h ∙ ap (λ (z : ℤ). distance side z n) (kept_is (c +ℤ e) m is))

pub signed_some : (side : Side) (a : ℤ) → a ≢ pos 0 → signed side a ≢ pos 0
signed_some Least a some = some
signed_some Greatest a some = λ e. some (omega (arith, ints))

-- the term's part of the sum, as it counts on that side
pub signed_part : (side : Side) (a x z k : ℤ) → signed side a *ℤ x +ℤ k ≡ k +ℤ signed side ((z +ℤ a *ℤ x) -ℤ z)
signed_part Least a x z k = omega (arith, ints)
signed_part Greatest a x z k = let e : neg_ℤ a *ℤ x ≡ neg_ℤ (a *ℤ x) = mul_comm (neg_ℤ a) x ∙ mul_neg x a ∙ ap neg_ℤ (mul_comm x a) in omega (arith, ints)

pub signed_none : (side : Side) (z k : ℤ) → k ≡ k +ℤ signed side (z -ℤ z)
signed_none Least z k = omega (arith, ints)
signed_none Greatest z k = omega (arith, ints)

module _ (s : State) where
  cut_form_tells : (side : Side) (b : Box) (o : Option ℤ) (ts : List (ℕ × ℤ)) (z : ℤ) → Each (λ t. t.1 ≢ pos 0) ts → HasBox (cut_form side b o ts) s →
      HasBox b s × ((k : ℤ) × (o ≡ Some k) × (pos 0 ≤ℤ (k +ℤ signed side (sum_over z ts s -ℤ z))))
  cut_form_tells side None o ts z some h = absurd h
  cut_form_tells side (Some b) None ts z some h = absurd h
  cut_form_tells side (Some b) (Some c) [] z some h =
      let told = cut_terms_tells s b c [] tt (omega arith) h in
      (told.0, (c, refl, subst (λ (m : ℤ). pos 0 ≤ℤ m) (signed_none side z c) told.1))
  cut_form_tells side (Some b) (Some c) (t ∷ []) z some h =
      let told = cut_tells s b t.0 (signed side t.1) c (signed_some side t.1 some.0) h in
      (told.0, (c, refl, subst (λ (m : ℤ). pos 0 ≤ℤ m) (signed_part side t.1 (at s t.0) z c) told.1))
  cut_form_tells side (Some b) (Some c) (t ∷ u ∷ ts) z some h = absurd h

  asked_tells : (side : Side) (b : Box) (form : Linear) (choice wanted : Option ℤ) → HasBox (asked side b form choice wanted) s → HasBox b s × IsAsked side form choice wanted s
  asked_tells side b form choice None h = (h, tt)
  asked_tells side b form choice (Some n) h =
      let told = cut_form_tells side b (gap side (plus_choice (Some form.constant) choice) n) (terms_of form) form.constant (terms_are_some form) h in
      let end = gap_tells side form.constant choice n told.1.0 told.1.1 in
      (told.0, (end.0, end.1, inner side told.1.0 end.0 end.2 told.1.2))
    where
      inner : (z : Side) (k e : ℤ) → k ≡ distance z (form.constant +ℤ e) n → pos 0 ≤ℤ (k +ℤ signed z (sum_over form.constant (terms_of form) s -ℤ form.constant)) →
          IsInside z (Some n) (value form s +ℤ e)
      inner Least k e is h = let whole = value_is_walk form s in omega (arith, ints)
      inner Greatest k e is h = let whole = value_is_walk form s in omega (arith, ints)

  pub before_set_tells : (b : Bounded) (x : ℕ) (form : Linear) (lo hi : Option ℤ) (c : ℤ) → x < length s → IsNotBelow lo c → IsNotAbove hi c → HasBox (before_set b x form lo hi) s →
      HasBounds b.intervals (slice_set s x (value form s +ℤ c))
  before_set_tells b x form lo hi c lt low high h = λ v. by v (eqb_tells v x)
    where
      new : State
      new = slice_set s x (value form s +ℤ c)

      above : HasBox (asked Least (Some (freed b x)) form lo (interval_at b.intervals x).least) s × IsAsked Greatest form hi (interval_at b.intervals x).greatest s
      above = asked_tells Greatest (asked Least (Some (freed b x)) form lo (interval_at b.intervals x).least) form hi (interval_at b.intervals x).greatest h

      below : HasBox (Some (freed b x)) s × IsAsked Least form lo (interval_at b.intervals x).least s
      below = asked_tells Least (Some (freed b x)) form lo (interval_at b.intervals x).least above.0

      least : (m : Option ℤ) → IsAsked Least form lo m s → IsNotBelow m (value form s +ℤ c)
      least None a = tt
      least (Some n) a =
          let far : a.0 ≤ℤ c = subst (λ (o : Option ℤ). IsNotBelow o c) a.1 low in
          let near : n ≤ℤ (value form s +ℤ a.0) = a.2 in
          omega (arith, ints)

      greatest : (m : Option ℤ) → IsAsked Greatest form hi m s → IsNotAbove m (value form s +ℤ c)
      greatest None a = tt
      greatest (Some n) a =
          let far : c ≤ℤ a.0 = subst (λ (o : Option ℤ). IsNotAbove o c) a.1 high in
          let near : (value form s +ℤ a.0) ≤ℤ n = a.2 in
          omega (arith, ints)

      by : (v : ℕ) → (((v == x) ≡ true) × (v ≡ x)) ⊎ (((v == x) ≡ false) × (v ≢ x)) → Holds (interval_at b.intervals v) (at new v)
      by v (inl e) =
          subst (λ (n : ℕ). Holds (interval_at b.intervals n) (at new n)) (sym e.1)
          (subst (Holds (interval_at b.intervals x)) (sym (get_or-set_same s x (value form s +ℤ c) (pos 0) lt))
          (least (interval_at b.intervals x).least below.1, greatest (interval_at b.intervals x).greatest above.1))
      by v (inr e) =
          subst (Holds (interval_at b.intervals v)) (sym (get_or-set_other s x v (value form s +ℤ c) (pos 0) e.1))
          ((put_tells b.intervals x free s below.0).1 v e.1)
