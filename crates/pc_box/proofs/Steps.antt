-- What passes an edge is in what the edge makes of a box.
use Rattle.std.proofs.Common.{◌≡◌, ◌∙◌, ℕ, zero, suc, ◌<◌, ◌≤◌, max, pos, ◌+ℤ◌, Bool, true, false, List, [], ◌∷◌, Some, None, refl, sym, ap, subst, arith, inl, inr}
use Rattle.std.specs.Prelude.{◌⊎◌, nat_lt, slice_set}
use Rattle.std.proofs.lemmas.Bool.Decides.{nat_tests}
use Rattle.std.proofs.lemmas.List.{get_or-set_same, get_or-set_other}
use Rattle.std.proofs.lemmas.Int.{ints}
use Rattle.pc_language.specs.Ends.{end_of}
use Rattle.pc_rows.specs.Laws.{at}
use Rattle.pc_rows.specs.Linear.{State, value, zero_from}
use Rattle.pc_rows.proofs.Only.{zero_from_at}
use Rattle.pc_flow.specs.declared.what.What.{What}
use Rattle.pc_flow.specs.declared.what.What.TheVariants.{Enter, Test, Set, Check}
use Rattle.pc_flow.specs.Carry.{HasVariable}
use Rattle.pc_flow.specs.Walk.{Pass}
use Rattle.pc_box.specs.declared.form.Side.TheVariants.{Least, Greatest}
use Rattle.pc_box.specs.declared.interval.Interval.{Interval}
use Rattle.pc_box.specs.Intervals.{Holds, only_zero}
use Rattle.pc_box.specs.Boxes.{Box, interval_at, HasBounds, HasBox, entered_at, entered, join_of}
use Rattle.pc_box.specs.Forms.{end_of_form}
use Rattle.pc_box.specs.Forward.{after_of}
use Rattle.pc_box.proofs.Cuts.{has_put, has_cut_rows}
use Rattle.pc_box.proofs.Sums.{form_inside}
use Rattle.pc_box.proofs.Tables.{at_tabulated, past_tabulated, within_or_past, in_hulls}

-- ---- the entry

pub before_stays : (n : ℕ) (s : State) (v : ℕ) → v < n → at (zero_from n s) v ≡ at s v
before_stays n [] v lt = refl
before_stays zero (x ∷ s) v lt = absurd (omega arith)
before_stays (suc n) (x ∷ s) zero lt = refl
before_stays (suc n) (x ∷ s) (suc v) lt = before_stays n s v (omega arith)

pub below_tells : (v n : ℕ) → ((nat_lt v n ≡ true) × (v < n)) ⊎ ((nat_lt v n ≡ false) × (n ≤ v))
below_tells v n = by (nat_lt v n) refl
  where
    by : (b : Bool) → nat_lt v n ≡ b → ((b ≡ true) × (v < n)) ⊎ ((b ≡ false) × (n ≤ v))
    by true e = inl (refl, grind (arith, nat_tests))
    by false e = inr (refl, grind (arith, nat_tests))

has_entered : (params hint : ℕ) (bs : List Interval) (s : State) → HasBounds bs s → HasBounds (entered params hint bs) (zero_from params s)
has_entered params hint bs s has v = by (within_or_past (max params hint) v) (below_tells v params)
  where
    by : (v < max params hint) ⊎ (max params hint ≤ v) → ((nat_lt v params ≡ true) × (v < params)) ⊎ ((nat_lt v params ≡ false) × (params ≤ v)) →
        Holds (interval_at (entered params hint bs) v) (at (zero_from params s) v)
    by (inr past) tells = subst (λ (i : Interval). Holds i (at (zero_from params s) v)) (sym (past_tabulated (entered_at params bs) (max params hint) v past)) (tt, tt)
    by (inl lt) (inl below) =
        let is : interval_at (entered params hint bs) v ≡ interval_at bs v = at_tabulated (entered_at params bs) (max params hint) v lt ∙ rw below.0 refl in
        subst (λ (i : Interval). Holds i (at (zero_from params s) v)) (sym is) (subst (Holds (interval_at bs v)) (sym (before_stays params s v below.1)) (has v))
    by (inl lt) (inr above) =
        let is : interval_at (entered params hint bs) v ≡ only_zero = at_tabulated (entered_at params bs) (max params hint) v lt ∙ rw above.0 refl in
        let none : at (zero_from params s) v ≡ pos 0 = zero_from_at params s v above.1 in
        subst (λ (i : Interval). Holds i (at (zero_from params s) v)) (sym is) (subst (Holds only_zero) (sym none) (omega (arith, ints), omega (arith, ints)))

-- ---- edges

pub has_after : (w : What) (b : Box) (s t : State) → HasVariable w s → HasBox b s → Pass w s t → HasBox (after_of w b) t
has_after w None s t var has pass = absurd has
has_after (Enter params) (Some b) s t var has pass = subst (HasBounds (entered params b.hint b.intervals)) (sym pass) (has_entered params b.hint b.intervals s has)
has_after (Test rows) (Some b) s t var has pass = subst (HasBox (after_of (Test rows) (Some b))) (sym pass.1) (has_cut_rows s (Some b) rows has pass.0)
has_after (Check rows) (Some b) s t var has pass = subst (HasBox (after_of (Check rows) (Some b))) (sym pass.1) (has_cut_rows s (Some b) rows has pass.0)
has_after (Set x form lo hi) (Some b) s t var has pass =
    let set : t ≡ slice_set s x (value form s +ℤ pass.0) = pass.3 in
    let here : at t x ≡ value form s +ℤ pass.0 = ap (λ (z : State). at z x) set ∙ get_or-set_same s x (value form s +ℤ pass.0) (pos 0) var in
    let ends : Interval = record { least = end_of_form Least b.intervals form (end_of lo); greatest = end_of_form Greatest b.intervals form (end_of hi) } in
    let holds : Holds ends (value form s +ℤ pass.0) = (form_inside Least b.intervals s has form (end_of lo) pass.0 pass.1, form_inside Greatest b.intervals s has form (end_of hi) pass.0 pass.2) in
    has_put b.intervals x ends s t has (subst (Holds ends) (sym here) holds)
    (λ v other. ap (λ (z : State). at z v) set ∙ get_or-set_other s x v (value form s +ℤ pass.0) (pos 0) other)

-- ---- joins

pub has_join : (a b : Box) (s : State) → HasBox a s ⊎ HasBox b s → HasBox (join_of a b) s
has_join None b s (inl h) = absurd h
has_join None b s (inr h) = h
has_join (Some a) None s (inl h) = h
has_join (Some a) None s (inr h) = absurd h
has_join (Some a) (Some b) s (inl h) = λ v. in_hulls a.intervals b.intervals v (at s v) (inl (h v))
has_join (Some a) (Some b) s (inr h) = λ v. in_hulls a.intervals b.intervals v (at s v) (inr (h v))
