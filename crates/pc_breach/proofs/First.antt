-- The row that is followed is the first of its point that the state does not meet, so the assertions on the way hold.
use Rattle.std.proofs.Common.{◌≡◌, ◌∙◌, ◌==◌, ℤ, pos, List, [], ◌∷◌, ◌++◌, length, Bool, true, false, not, cond, refl, sym, ap, subst, arith, inl, inr, Option, Some, None}
use Rattle.std.specs.Prelude.{◌⊎◌, int_le}
use Rattle.std.specs.List.{AllByRecursion, list_any}
use Rattle.std.proofs.lemmas.Bool.Decides.{nat_tests}
use Rattle.pc_rows.specs.Linear.{Linear, State, value, Meets, MeetsAll}
use Rattle.pc_rows.specs.Joins.{is_covered, with_row, joined}
use Rattle.pc_rows.proofs.Joining.{le_is, is_le, covered_is_met, join_is_both}
use Rattle.pc_rows.proofs.Meeting.{all_or_not, meets_join}
use Rattle.pc_flow.specs.declared.what.What.{What}
use Rattle.pc_flow.specs.declared.what.What.TheVariants.{Enter, Test, Set, Check}
use Rattle.pc_flow.specs.Arc.{Arc}
use Rattle.pc_flow.specs.Carry.{back, back_all, owes}
use Rattle.pc_flow.specs.Exact.{PointRows, NoRows}
use Rattle.pc_flow.specs.Lists.{In}
use Rattle.pc_lower.specs.Need.{uncovered, demanded, gathered}
use Rattle.pc_breach.specs.declared.step.Step.{Step}
use Rattle.pc_breach.specs.Entry.{first_broken}
use Rattle.pc_breach.specs.Following.{Standing, is_same, own_rows, carried_step, step_over, step_over_some, first_of_two}
use Rattle.pc_breach.proofs.Same.{Outcome, Stands, is_itself, in_any, over_taken, over_there, onward_step, last_step, later_step}

-- r is the first of the rows that the state does not meet
abbrev pub IsFirst : State → List Linear → Linear → Type 0
IsFirst t [] r = ⊥
IsFirst t (x ∷ rows) r = (Meets t x × IsFirst t rows r) ⊎ ((x ≡ r) × (Meets t r → ⊥))

pub first_is : (s : State) (rows : List Linear) (r : Linear) → first_broken s rows ≡ Some r → IsFirst s rows r
first_is s [] r h = cc
first_is s (x ∷ rows) r h = by (int_le (pos 0) (value x s)) refl h (λ k. first_is s rows r k)
  where
    by : (t : Bool) → int_le (pos 0) (value x s) ≡ t → cond t (first_broken s rows) (Some x) ≡ Some r → (first_broken s rows ≡ Some r → IsFirst s rows r) → IsFirst s (x ∷ rows) r
    by true met h more = inl (le_is (pos 0) (value x s) met, more h)
    by false met h more =
        let same : x ≡ r = cc in
        inr (same, λ m. let met_too = is_le (pos 0) (value x s) (subst (Meets s) (sym same) m) in cc)

pub first_in : (t : State) (rows : List Linear) (r : Linear) → IsFirst t rows r → In r rows
first_in t [] r h = absurd h
first_in t (x ∷ rows) r (inl h) = inr (first_in t rows r h.1)
first_in t (x ∷ rows) r (inr h) = inl (sym h.0)

pub first_unmet : (t : State) (rows : List Linear) (r : Linear) → IsFirst t rows r → Meets t r → ⊥
first_unmet t [] r h m = h
first_unmet t (x ∷ rows) r (inl h) m = first_unmet t rows r h.1 m
first_unmet t (x ∷ rows) r (inr h) m = h.1 m

first_not_all : (t : State) (rows : List Linear) (r : Linear) → IsFirst t rows r → MeetsAll t rows → ⊥
first_not_all t [] r h m = h
first_not_all t (x ∷ rows) r (inl h) m = first_not_all t rows r h.1 m.1
first_not_all t (x ∷ rows) r (inr h) m = h.1 (subst (Meets t) h.0 m.0)

first_only : (t : State) (rows : List Linear) (r q : Linear) → IsFirst t rows r → IsFirst t rows q → r ≡ q
first_only t [] r q h k = absurd h
first_only t (x ∷ rows) r q (inl h) (inl k) = first_only t rows r q h.1 k.1
first_only t (x ∷ rows) r q (inl h) (inr k) = absurd (k.1 (subst (Meets t) k.0 h.0))
first_only t (x ∷ rows) r q (inr h) (inl k) = absurd (h.1 (subst (Meets t) h.0 k.0))
first_only t (x ∷ rows) r q (inr h) (inr k) = sym h.0 ∙ k.0

first_front : (t : State) (xs ys : List Linear) (r : Linear) → IsFirst t xs r → IsFirst t (xs ++ ys) r
first_front t [] ys r h = absurd h
first_front t (x ∷ xs) ys r (inl h) = inl (h.0, first_front t xs ys r h.1)
first_front t (x ∷ xs) ys r (inr h) = inr h

first_behind : (t : State) (xs ys : List Linear) (r : Linear) → MeetsAll t xs → IsFirst t ys r → IsFirst t (xs ++ ys) r
first_behind t [] ys r all h = h
first_behind t (x ∷ xs) ys r all h = inl (all.0, first_behind t xs ys r all.1 h)

pub first_split : (t : State) (xs ys : List Linear) (r : Linear) → IsFirst t (xs ++ ys) r → IsFirst t xs r ⊎ (MeetsAll t xs × IsFirst t ys r)
first_split t [] ys r h = inr (tt, h)
first_split t (x ∷ xs) ys r (inr h) = inl (inr h)
first_split t (x ∷ xs) ys r (inl h) = by (first_split t xs ys r h.1)
  where
    by : IsFirst t xs r ⊎ (MeetsAll t xs × IsFirst t ys r) → IsFirst t (x ∷ xs) r ⊎ (MeetsAll t (x ∷ xs) × IsFirst t ys r)
    by (inl k) = inl (inl (h.0, k))
    by (inr k) = inr ((h.0, k.0), k.1)

first_or_all : (t : State) (rows : List Linear) → MeetsAll t rows ⊎ ((r : Linear) × IsFirst t rows r)
first_or_all t [] = inl tt
first_or_all t (x ∷ rows) = by (all_or_not (x ∷ []) t) (first_or_all t rows)
  where
    by : MeetsAll t (x ∷ []) ⊎ (MeetsAll t (x ∷ []) → ⊥) → MeetsAll t rows ⊎ ((r : Linear) × IsFirst t rows r) → MeetsAll t (x ∷ rows) ⊎ ((r : Linear) × IsFirst t (x ∷ rows) r)
    by (inr bad) k = inr (x, inr (refl, λ m. bad (m, tt)))
    by (inl met) (inl all) = inl (met.0, all)
    by (inl met) (inr k) = inr (k.0, inl (met.0, k.1))

-- ---- joins

with_front : (t : State) (rows : List Linear) (w r : Linear) → IsFirst t rows r → IsFirst t (with_row rows w) r
with_front t rows w r h = by (is_covered w rows)
  where
    by : (b : Bool) → IsFirst t (cond b rows (rows ++ w ∷ [])) r
    by true = h
    by false = first_front t rows (w ∷ []) r h

joined_front : (t : State) (rows ws : List Linear) (r : Linear) → IsFirst t rows r → IsFirst t (joined rows ws) r
joined_front t rows [] r h = h
joined_front t rows (w ∷ ws) r h = joined_front t (with_row rows w) ws r (with_front t rows w r h)

with_all : (t : State) (rows : List Linear) (w : Linear) → MeetsAll t rows → Meets t w → MeetsAll t (with_row rows w)
with_all t rows w all met = by (is_covered w rows)
  where
    by : (b : Bool) → MeetsAll t (cond b rows (rows ++ w ∷ []))
    by true = all
    by false = meets_join t rows (w ∷ []) all (met, tt)

with_first : (t : State) (rows : List Linear) (r : Linear) → MeetsAll t rows → (Meets t r → ⊥) → IsFirst t (with_row rows r) r
with_first t rows r all bad = by (is_covered r rows) refl
  where
    by : (b : Bool) → is_covered r rows ≡ b → IsFirst t (cond b rows (rows ++ r ∷ [])) r
    by true covered = absurd (bad (covered_is_met r rows t covered all))
    by false covered = first_behind t rows (r ∷ []) r all (inr (refl, bad))

joined_first : (t : State) (rows ws : List Linear) (r : Linear) → MeetsAll t rows → IsFirst t ws r → IsFirst t (joined rows ws) r
joined_first t rows [] r all h = absurd h
joined_first t rows (w ∷ ws) r all (inl h) = joined_first t (with_row rows w) ws r (with_all t rows w all h.0) h.1
joined_first t rows (w ∷ ws) r all (inr h) =
    joined_front t (with_row rows w) ws r (subst (λ (z : Linear). IsFirst t (with_row rows z) r) (sym h.0) (with_first t rows r all h.1))

gathered_front : (t : State) (a : PointRows) (rows : List Linear) (edges : List Arc) (r : Linear) → IsFirst t rows r → IsFirst t (gathered a rows edges) r
gathered_front t a rows [] r h = h
gathered_front t a rows (e ∷ edges) r h = gathered_front t a (joined rows (demanded e.what (a e.to))) edges r (joined_front t rows (demanded e.what (a e.to)) r h)

-- ---- what an edge without a test demands is what it owes, but for rows that all states meet

uncovered_first : (t : State) (rows : List Linear) (r : Linear) → IsFirst t (uncovered [] rows) r → IsFirst t rows r
uncovered_first t [] r h = h
uncovered_first t (x ∷ rows) r h = by (is_covered x []) refl h (uncovered_first t rows r)
  where
    by : (b : Bool) → is_covered x [] ≡ b → IsFirst t (cond (not b) (x ∷ uncovered [] rows) (uncovered [] rows)) r → (IsFirst t (uncovered [] rows) r → IsFirst t rows r) → IsFirst t (x ∷ rows) r
    by true covered h more = inl (covered_is_met x [] t covered tt, more h)
    by false covered (inl h) more = inl (h.0, more h.1)
    by false covered (inr h) more = inr h

uncovered_all : (t : State) (rows : List Linear) → MeetsAll t (uncovered [] rows) → MeetsAll t rows
uncovered_all t [] h = tt
uncovered_all t (x ∷ rows) h = by (is_covered x []) refl h (uncovered_all t rows)
  where
    by : (b : Bool) → is_covered x [] ≡ b → MeetsAll t (cond (not b) (x ∷ uncovered [] rows) (uncovered [] rows)) → (MeetsAll t (uncovered [] rows) → MeetsAll t rows) → MeetsAll t (x ∷ rows)
    by true covered h more = (covered_is_met x [] t covered tt, more h)
    by false covered h more = (h.0, more h.1)

demanded_first : (t : State) (w : What) (rows : List Linear) (r : Linear) → NoRows w → IsFirst t (demanded w rows) r → IsFirst t (owes w rows) r
demanded_first t (Enter n) rows r free h = h
demanded_first t (Set x f lo hi) rows r free h = h
demanded_first t (Check own) rows r free h = h
demanded_first t (Test own) rows r free h = uncovered_first t (owes (Test own) rows) r (subst (λ (z : List Linear). IsFirst t (uncovered z (owes (Test own) rows)) r) free h)

demanded_all : (t : State) (w : What) (rows : List Linear) → NoRows w → MeetsAll t (demanded w rows) → MeetsAll t (owes w rows)
demanded_all t (Enter n) rows free h = h
demanded_all t (Set x f lo hi) rows free h = h
demanded_all t (Check own) rows free h = h
demanded_all t (Test own) rows free h = uncovered_all t (owes (Test own) rows) (subst (λ (z : List Linear). MeetsAll t (uncovered z (owes (Test own) rows))) free h)

-- ---- the edges from a point: all that is owed is met, up to the first edge that owes r, and there r is the first that is not met

abbrev pub Leads : State → PointRows → Linear → List Arc → Type 0
Leads t a r [] = ⊥
Leads t a r (e ∷ edges) = (MeetsAll t (owes e.what (a e.to)) × Leads t a r edges) ⊎ IsFirst t (owes e.what (a e.to)) r

pub leads : (t : State) (a : PointRows) (rows : List Linear) (edges : List Arc) (r : Linear) → AllByRecursion (λ e. NoRows e.what) edges → MeetsAll t rows →
    IsFirst t (gathered a rows edges) r → Leads t a r edges
leads t a rows [] r free all h = first_not_all t rows r h all
leads t a rows (e ∷ edges) r free all h = by (first_or_all t (demanded e.what (a e.to))) (λ met. leads t a (joined rows (demanded e.what (a e.to))) edges r free.1 met h)
  where
    by : MeetsAll t (demanded e.what (a e.to)) ⊎ ((q : Linear) × IsFirst t (demanded e.what (a e.to)) q) →
        (MeetsAll t (joined rows (demanded e.what (a e.to))) → Leads t a r edges) → Leads t a r (e ∷ edges)
    by (inl met) more = inl (demanded_all t e.what (a e.to) free.0 met, more ((join_is_both rows (demanded e.what (a e.to)) t).1 (all, met)))
    by (inr k) more =
        let front = gathered_front t a (joined rows (demanded e.what (a e.to))) edges k.0 (joined_first t rows (demanded e.what (a e.to)) k.0 all k.1) in
        let same = first_only t (gathered a rows (e ∷ edges)) k.0 r front h in
        inr (demanded_first t e.what (a e.to) r free.0 (subst (IsFirst t (demanded e.what (a e.to))) same k.1))

-- ---- the step over the first edge that owes r

own_in : (w : What) (rows : List Linear) → owes w rows ≡ own_rows w ++ back_all w rows
own_in (Enter n) rows = refl
own_in (Test own) rows = refl
own_in (Set x f lo hi) rows = refl
own_in (Check own) rows = ap (λ (z : List Linear). own ++ z) (sym (kept rows))
  where
    kept : (zs : List Linear) → back_all (Check own) zs ≡ zs
    kept [] = refl
    kept (z ∷ zs) = ap (λ (y : List Linear). z ∷ y) (kept zs)

in_front : (x : Linear) (xs ys : List Linear) → In x xs → In x (xs ++ ys)
in_front x [] ys m = absurd m
in_front x (y ∷ xs) ys (inl e) = inl e
in_front x (y ∷ xs) ys (inr m) = inr (in_front x xs ys m)

in_behind : (x : Linear) (xs ys : List Linear) → In x ys → In x (xs ++ ys)
in_behind x [] ys m = m
in_behind x (y ∷ xs) ys m = inr (in_behind x xs ys m)

in_back : (w : What) (z : Linear) (rows : List Linear) → In z rows → In (back w z) (back_all w rows)
in_back w z [] m = absurd m
in_back w z (x ∷ rows) (inl e) = inl (ap (back w) e)
in_back w z (x ∷ rows) (inr m) = inr (in_back w z rows m)

over_owed : (at : Standing) (e : Arc) (r : Linear) (rows : List Linear) (step : Step) → step_over at e r rows ≡ Some step → In r (owes e.what rows)
over_owed at e r rows step is = subst (In r) (sym (own_in e.what rows)) (by step.choice step.row (over_taken at e r rows step is).outcome)
  where
    by : (c : Option ℤ) (o : Option Linear) → Outcome at e r rows c o → In r (own_rows e.what ++ back_all e.what rows)
    by c None h = in_front r (own_rows e.what) (back_all e.what rows) h.0
    by c (Some z) h = in_behind r (own_rows e.what) (back_all e.what rows) (subst (λ (y : Linear). In y (back_all e.what rows)) h.1 (in_back e.what z rows h.0))

meets_at : (t : State) (rows : List Linear) (r : Linear) → MeetsAll t rows → In r rows → Meets t r
meets_at t [] r h m = absurd m
meets_at t (x ∷ xs) r h (inl e) = subst (Meets t) (sym e) h.0
meets_at t (x ∷ xs) r h (inr m) = meets_at t xs r h.1 m

abbrev pub FirstOver : State → PointRows → Linear → Arc → Standing → Step → Type 0
FirstOver t a r e at step = (step_over at e r (a e.to) ≡ Some step) × IsFirst t (owes e.what (a e.to)) r

-- an edge that gives a step is the first that owes r; one that gives none owes what is met
over_first : (t : State) (a : PointRows) (r : Linear) (at : Standing) (f : Arc) (some : List Arc) (step : Step) → (Meets t r → ⊥) → Leads t a r (f ∷ some) →
    step_over at f r (a f.to) ≡ Some step → FirstOver t a r f at step
over_first t a r at f some step bad (inl h) over = absurd (bad (meets_at t (owes f.what (a f.to)) r h.0 (over_owed at f r (a f.to) step over)))
over_first t a r at f some step bad (inr h) over = (over, h)

over_later : (t : State) (a : PointRows) (r : Linear) (at : Standing) (f : Arc) (some : List Arc) → Leads t a r (f ∷ some) → step_over at f r (a f.to) ≡ None → Leads t a r some
over_later t a r at f some (inl h) over = h.1
over_later t a r at f some (inr h) over = let there = over_there at f r (a f.to) (first_in t (owes f.what (a f.to)) r h) in let is = there.1 in absurd (cc)

abbrev LaterFirst : Bool → State → PointRows → Linear → List Arc → Step → Type 0
LaterFirst only t a r some step = (e : Arc) × In e some × FirstOver t a r e (record { first = false; only = only }) step

later_first : (only : Bool) (t : State) (a : PointRows) (r : Linear) (some : List Arc) (step : Step) → (Meets t r → ⊥) → Leads t a r some →
    step_over_some (record { first = false; only = only }) a r some ≡ Some step → LaterFirst only t a r some step
later_first only t a r [] step bad l is = absurd l
later_first only t a r (f ∷ some) step bad l is = by (step_over (record { first = false; only = only }) f r (a f.to)) refl is (λ k m. later_first only t a r some step bad k m)
  where
    by : (o : Option Step) → step_over (record { first = false; only = only }) f r (a f.to) ≡ o → first_of_two o (later_step only a r some) ≡ Some step →
        (Leads t a r some → later_step only a r some ≡ Some step → LaterFirst only t a r some step) → LaterFirst only t a r (f ∷ some) step
    by (Some z) over is more = (f, inl refl, over_first t a r (record { first = false; only = only }) f some step bad l (over ∙ is))
    by None over is more = let k = more (over_later t a r (record { first = false; only = only }) f some l over) is in (k.0, inr k.1, k.2)

abbrev pub PointFirst : State → PointRows → Linear → List Arc → Step → Type 0
PointFirst t a r some step = (e : Arc) × (at : Standing) × In e some × Stands some e at × FirstOver t a r e at step

pub point_first : (t : State) (a : PointRows) (r : Linear) (some : List Arc) (step : Step) → (Meets t r → ⊥) → Leads t a r some →
    step_over_some (record { first = true; only = length some == 1 }) a r some ≡ Some step → PointFirst t a r some step
point_first t a r [] step bad l is = absurd l
point_first t a r (f ∷ []) step bad l is = by (step_over (record { first = true; only = true }) f r (a f.to)) refl is
  where
    by : (o : Option Step) → step_over (record { first = true; only = true }) f r (a f.to) ≡ o → first_of_two o None ≡ Some step → PointFirst t a r (f ∷ []) step
    by (Some z) over is = (f, record { first = true; only = true }, inl refl, (refl, refl), over_first t a r (record { first = true; only = true }) f [] step bad l (over ∙ is))
    by None over is = absurd (cc)
point_first t a r (f ∷ g ∷ more) step bad l is =
    by (step_over (record { first = true; only = false }) f r (a f.to)) refl (subst (λ (t : Bool). step_over_some (record { first = true; only = t }) a r (f ∷ g ∷ more) ≡ Some step) several is)
  where
    several : (length (f ∷ g ∷ more) == 1) ≡ false
    several = grind (arith, nat_tests)

    by : (o : Option Step) → step_over (record { first = true; only = false }) f r (a f.to) ≡ o →
        first_of_two o (later_step false a r (g ∷ more)) ≡ Some step → PointFirst t a r (f ∷ g ∷ more) step
    by (Some z) over is =
        (f, record { first = true; only = false }, inl refl, (refl, inl (refl, refl)), over_first t a r (record { first = true; only = false }) f (g ∷ more) step bad l (over ∙ is))
    by None over is =
        let k = later_first false t a r (g ∷ more) step bad (over_later t a r (record { first = true; only = false }) f (g ∷ more) l over) is in
        (k.0, record { first = false; only = false }, inr k.1, (refl, inr (k.1, refl)), k.2)

-- ---- what goes on is the first row at the target that is not met there

carried_first : (at : Standing) (e : Arc) (r z : Linear) (t u : State) (rows : List Linear) (step : Step) → carried_step at e r rows ≡ Some step → step.row ≡ Some z →
    IsFirst t (back_all e.what rows) r → ((x : Linear) → Meets t (back e.what x) → Meets u x) → (Meets u z → ⊥) → IsFirst u rows z
carried_first at e r z t u [] step is row h succ bad = absurd h
carried_first at e r z t u (x ∷ rows) step is row h succ bad = by (is_same (back e.what x) r) refl is h (λ k m. carried_first at e r z t u rows step k row m succ bad)
  where
    by : (b : Bool) → is_same (back e.what x) r ≡ b → cond b (Some (onward_step at e x)) (carried_step at e r rows) ≡ Some step → IsFirst t (back_all e.what (x ∷ rows)) r →
        (carried_step at e r rows ≡ Some step → IsFirst t (back_all e.what rows) r → IsFirst u rows z) → IsFirst u (x ∷ rows) z
    by true same is h more =
        let it : onward_step at e x ≡ step = cc in
        let rows_are : Some x ≡ Some z = ap (λ (s : Step). s.row) it ∙ row in
        let row_is : x ≡ z = cc in
        inr (row_is, bad)
    by false same is (inl h) more = inl (succ x h.0, more is h.1)
    by false same is (inr h) more = let it : is_same (back e.what x) r ≡ true = subst (λ (y : Linear). is_same y r ≡ true) (sym h.0) (is_itself r) in absurd (cc)

over_carried : (at : Standing) (e : Arc) (r z : Linear) (rows : List Linear) (step : Step) → step_over at e r rows ≡ Some step → step.row ≡ Some z →
    (list_any (λ x. is_same x r) (own_rows e.what) ≡ false) × (carried_step at e r rows ≡ Some step)
over_carried at e r z rows step is row = by (list_any (λ x. is_same x r) (own_rows e.what)) refl is
  where
    by : (b : Bool) → list_any (λ x. is_same x r) (own_rows e.what) ≡ b → cond b (Some (last_step e)) (carried_step at e r rows) ≡ Some step →
        (list_any (λ x. is_same x r) (own_rows e.what) ≡ false) × (carried_step at e r rows ≡ Some step)
    by true own is =
        let it : last_step e ≡ step = cc in
        let rows_are : None ≡ Some z = ap (λ (s : Step). s.row) it ∙ row in
        absurd (cc)
    by false own is = (own, is)

-- where a row at the target is followed, all rows of the edge's own are met, and it is the first at the target that is not met
pub goes_on : (at : Standing) (e : Arc) (r z : Linear) (t : State) (rows : List Linear) (step : Step) → step_over at e r rows ≡ Some step → step.row ≡ Some z → IsFirst t (owes e.what rows) r →
    MeetsAll t (own_rows e.what) × ((u : State) → ((x : Linear) → Meets t (back e.what x) → Meets u x) → (Meets u z → ⊥) → IsFirst u rows z)
goes_on at e r z t rows step is row h =
    let c = over_carried at e r z rows step is row in
    by (first_split t (own_rows e.what) (back_all e.what rows) r (subst (λ (zs : List Linear). IsFirst t zs r) (own_in e.what rows) h)) c.0 c.1
  where
    by : IsFirst t (own_rows e.what) r ⊎ (MeetsAll t (own_rows e.what) × IsFirst t (back_all e.what rows) r) → list_any (λ x. is_same x r) (own_rows e.what) ≡ false →
        carried_step at e r rows ≡ Some step →
        MeetsAll t (own_rows e.what) × ((u : State) → ((x : Linear) → Meets t (back e.what x) → Meets u x) → (Meets u z → ⊥) → IsFirst u rows z)
    by (inl k) none carried = let it = in_any r (own_rows e.what) (first_in t (own_rows e.what) r k) in absurd (cc)
    by (inr k) none carried = (k.0, λ u succ bad. carried_first at e r z t u rows step carried row k.1 succ bad)
