-- What an assignment asks for a box is needed, with small numbers and at most one variable in the form.
use Rattle.std.proofs.Common.{◌≡◌, ◌≢◌, ◌∙◌, ℕ, ◌+◌, ◌<◌, ◌≤◌, ◌^◌, ℤ, pos, ◌+ℤ◌, ◌-ℤ◌, ◌*ℤ◌, ◌≤ℤ◌, List, [], ◌∷◌, length, Option, Some, None, refl, sym, ap, subst, arith}
use Rattle.std.specs.Prelude.{slice_set}
use Rattle.std.specs.List.{AllByRecursion as Each}
use Rattle.std.proofs.lemmas.Int.{ints}
use Rattle.std.proofs.lemmas.List.{get_or-set_same, get_or-set_other}
use Rattle.pc_rows.specs.Bounds.{IsWithin, Within}
use Rattle.pc_rows.specs.Laws.{at, EndIsWithin}
use Rattle.pc_rows.specs.Linear.{Linear, State, value}
use Rattle.pc_rows.specs.Readers.{terms_of, sum_over}
use Rattle.pc_rows.specs.Substitution.{IsNotBelow, IsNotAbove, AreOrdered, lesser}
use Rattle.pc_rows.proofs.Ring.{le_refl_z}
use Rattle.pc_box.specs.declared.form.Side.{Side}
use Rattle.pc_box.specs.declared.form.Side.TheVariants.{Least, Greatest}
use Rattle.pc_box.specs.Intervals.{free, Holds, greater}
use Rattle.pc_box.specs.Boxes.{Bounded, Box, interval_at, HasBounds, HasBox}
use Rattle.pc_box.specs.Forms.{plus_choice}
use Rattle.pc_box.specs.Backward.{distance, gap, signed, cut_form, asked, freed, before_set}
use Rattle.pc_box.specs.Exact.{IsOfOne}
use Rattle.pc_box.proofs.Assigned.{IsAsked, signed_some, signed_part, signed_none}
use Rattle.pc_box.proofs.Cuts.{has_put, has_cut_terms}
use Rattle.pc_box.proofs.Keeping.{kept_in}
use Rattle.pc_box.proofs.Small.{BoxIsSmall}
use Rattle.pc_box.proofs.Sums.{IsInside}
use Rattle.pc_box.proofs.Walks.{value_is_walk, terms_are_some}
use Rattle.pc_box.proofs.Growing.{distance_within, sum_small}

gap_is : (a m : ℕ) (side : Side) (c e n : ℤ) → IsWithin a c → IsWithin a e → IsWithin m n → m + (a + a) < 2 ^ 127 → gap side (plus_choice (Some c) (Some e)) n ≡ Some (distance side (c +ℤ e) n)
gap_is a m side c e n h g k few =
    ap (λ (o : Option ℤ). gap side o n) (kept_in (c +ℤ e) (let w = sum_small a c e h g in omega arith))
    ∙ kept_in (distance side (c +ℤ e) n) (let w = distance_within (a + a) m side (c +ℤ e) n (sum_small a c e h g) k in omega arith)

module _ (s : State) where
  cut_form_keeps : (side : Side) (b : Box) (k : ℤ) (ts : List (ℕ × ℤ)) (z : ℤ) → length ts ≤ 1 → Each (λ t. t.1 ≢ pos 0) ts → HasBox b s →
      pos 0 ≤ℤ (k +ℤ signed side (sum_over z ts s -ℤ z)) → HasBox (cut_form side b (Some k) ts) s
  cut_form_keeps side None k ts z few some has h = absurd has
  cut_form_keeps side (Some b) k [] z few some has h = has_cut_terms s b k [] has tt (subst (λ (m : ℤ). pos 0 ≤ℤ m) (sym (signed_none side z k)) h)
  cut_form_keeps side (Some b) k (t ∷ []) z few some has h =
      let met : pos 0 ≤ℤ (signed side t.1 *ℤ at s t.0 +ℤ k) = subst (λ (m : ℤ). pos 0 ≤ℤ m) (sym (signed_part side t.1 (at s t.0) z k)) h in
      has_cut_terms s b k ((t.0, signed side t.1) ∷ []) has (signed_some side t.1 some.0, tt) (omega (arith, ints))
  cut_form_keeps side (Some b) k (t ∷ u ∷ ts) z few some has h = absurd (omega arith)

  asked_keeps : (a m : ℕ) (side : Side) (b : Box) (form : Linear) (choice wanted : Option ℤ) → IsOfOne form → Within a form → EndIsWithin a choice → EndIsWithin m wanted → m + (a + a) < 2 ^ 127 →
      HasBox b s → IsAsked side form choice wanted s → HasBox (asked side b form choice wanted) s
  asked_keeps a m side b form choice None one h end w few has asks = has
  asked_keeps a m side b form None (Some n) one h end w few has asks = absurd (let no = asks.1 in cc)
  asked_keeps a m side b form (Some e) (Some n) one h end w few has asks =
      subst (λ (o : Option ℤ). HasBox (cut_form side b o (terms_of form)) s) (sym (gap_is a m side form.constant e n h.constant end w few))
      (cut_form_keeps side b (distance side (form.constant +ℤ e) n) (terms_of form) form.constant one (terms_are_some form) has
      (outer side (subst (λ (z : ℤ). IsInside side (Some n) (value form s +ℤ z)) (let same : Some e ≡ Some asks.0 = asks.1 in let is : asks.0 ≡ e = cc in is) asks.2)))
    where
      outer : (z : Side) → IsInside z (Some n) (value form s +ℤ e) → pos 0 ≤ℤ (distance z (form.constant +ℤ e) n +ℤ signed z (sum_over form.constant (terms_of form) s -ℤ form.constant))
      outer Least h = let whole = value_is_walk form s in let near : n ≤ℤ (value form s +ℤ e) = h in omega (arith, ints)
      outer Greatest h = let whole = value_is_walk form s in let near : (value form s +ℤ e) ≤ℤ n = h in omega (arith, ints)

-- some integer is in the choice
pub some_choice : (lo hi : Option ℤ) → AreOrdered lo hi → (c : ℤ) × IsNotBelow lo c × IsNotAbove hi c
some_choice (Some l) hi ordered = (l, le_refl_z l, ordered)
some_choice None (Some h) ordered = (h, tt, le_refl_z h)
some_choice None None ordered = (pos 0, tt, tt)

-- where an end is open some integer of the choice is as far out as one wants
low_choice : (hi : Option ℤ) (n : ℤ) → (c : ℤ) × IsNotAbove hi c × (c ≤ℤ n)
low_choice None n = (n, tt, le_refl_z n)
low_choice (Some h) n = (lesser h n, grind (arith, ints), grind (arith, ints))

high_choice : (lo : Option ℤ) (n : ℤ) → (c : ℤ) × IsNotBelow lo c × (n ≤ℤ c)
high_choice None n = (n, tt, le_refl_z n)
high_choice (Some l) n = (greater l n, grind (arith, ints), grind (arith, ints))

module _ (s : State) (b : Bounded) (x : ℕ) (form : Linear) (lo hi : Option ℤ) (lt : x < length s) (ordered : AreOrdered lo hi)
    (all : (c : ℤ) → IsNotBelow lo c → IsNotAbove hi c → HasBounds b.intervals (slice_set s x (value form s +ℤ c))) where
  lands : (c : ℤ) → IsNotBelow lo c → IsNotAbove hi c → Holds (interval_at b.intervals x) (value form s +ℤ c)
  lands c low high = subst (Holds (interval_at b.intervals x)) (get_or-set_same s x (value form s +ℤ c) (pos 0) lt) (all c low high x)

  least_asked : (l m : Option ℤ) → lo ≡ l → (interval_at b.intervals x).least ≡ m → IsAsked Least form lo m s
  least_asked l None is end = tt
  least_asked (Some e) (Some n) is end =
      let high : IsNotAbove hi e = subst (λ (o : Option ℤ). AreOrdered o hi) is ordered in
      let low : IsNotBelow lo e = subst (λ (o : Option ℤ). IsNotBelow o e) (sym is) (le_refl_z e) in
      (e, is, subst (λ (o : Option ℤ). IsNotBelow o (value form s +ℤ e)) end (lands e low high).0)
  least_asked None (Some n) is end =
      let c = low_choice hi (n -ℤ value form s -ℤ pos 1) in
      let low : IsNotBelow lo c.0 = subst (λ (o : Option ℤ). IsNotBelow o c.0) (sym is) tt in
      let near : n ≤ℤ (value form s +ℤ c.0) = subst (λ (o : Option ℤ). IsNotBelow o (value form s +ℤ c.0)) end (lands c.0 low c.1).0 in
      let far = c.2 in
      absurd (omega (arith, ints))

  greatest_asked : (h m : Option ℤ) → hi ≡ h → (interval_at b.intervals x).greatest ≡ m → IsAsked Greatest form hi m s
  greatest_asked h None is end = tt
  greatest_asked (Some e) (Some n) is end =
      let high : IsNotAbove hi e = subst (λ (o : Option ℤ). IsNotAbove o e) (sym is) (le_refl_z e) in
      let low : IsNotBelow lo e = turned lo (subst (AreOrdered lo) is ordered) in
      (e, is, subst (λ (o : Option ℤ). IsNotAbove o (value form s +ℤ e)) end (lands e low high).1)
    where
      turned : (o : Option ℤ) → AreOrdered o (Some e) → IsNotBelow o e
      turned None h = tt
      turned (Some l) h = h
  greatest_asked None (Some n) is end =
      let c = high_choice lo (n -ℤ value form s +ℤ pos 1) in
      let high : IsNotAbove hi c.0 = subst (λ (o : Option ℤ). IsNotAbove o c.0) (sym is) tt in
      let near : (value form s +ℤ c.0) ≤ℤ n = subst (λ (o : Option ℤ). IsNotAbove o (value form s +ℤ c.0)) end (lands c.0 c.1 high).1 in
      let far = c.2 in
      absurd (omega (arith, ints))

  freed_has : HasBox (Some (freed b x)) s
  freed_has =
      let c = some_choice lo hi ordered in
      let new = slice_set s x (value form s +ℤ c.0) in
      has_put b.intervals x free new s (all c.0 c.1 c.2) (tt, tt) (λ v other. sym (get_or-set_other s x v (value form s +ℤ c.0) (pos 0) other))

  pub before_set_keeps : (a m : ℕ) → IsOfOne form → Within a form → EndIsWithin a lo → EndIsWithin a hi → BoxIsSmall m (Some b) → m + (a + a) < 2 ^ 127 → HasBox (before_set b x form lo hi) s
  before_set_keeps a m one h low high small few =
      let i = interval_at b.intervals x in
      asked_keeps s a m Greatest (asked Least (Some (freed b x)) form lo i.least) form hi i.greatest one h high (small x).1 few
      (asked_keeps s a m Least (Some (freed b x)) form lo i.least one h low (small x).0 few freed_has (least_asked lo i.least refl refl))
      (greatest_asked hi i.greatest refl refl)
