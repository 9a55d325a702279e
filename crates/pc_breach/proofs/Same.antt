-- Rows that are equal, and the step that an owed row has.
use Rattle.std.proofs.Common.{◌≡◌, ◌∙◌, ◌==◌, ℤ, pos, ◌≤ℤ◌, List, [], ◌∷◌, length, Bool, true, false, cond, refl, sym, ap, ap₂, subst, arith, inl, inr, Option, Some, None}
use Rattle.std.specs.Prelude.{◌⊎◌, int_le}
use Rattle.std.specs.List.{list_any}
use Rattle.std.specs.Ordering.{int_eq}
use Rattle.std.specs.Cmp.Lexicographic.{pointwise}
use Rattle.std.specs.Cmp.Rules.{signed_items}
use Rattle.std.proofs.lemmas.Bool.{and_from, and_parts, or_cases, or_left, or_right}
use Rattle.std.proofs.lemmas.Bool.Decides.{nat_tests}
use Rattle.std.proofs.lemmas.Int.{ints}
use Rattle.pc_rows.specs.Linear.{Linear}
use Rattle.pc_rows.specs.Joins.{is_at_most}
use Rattle.pc_rows.proofs.Joining.{at_most_is, is_le}
use Rattle.pc_flow.specs.declared.what.What.{What}
use Rattle.pc_flow.specs.declared.what.What.TheVariants.{Enter, Test, Set, Check}
use Rattle.pc_flow.specs.Arc.{Arc}
use Rattle.pc_flow.specs.Carry.{back, back_all, owes}
use Rattle.pc_flow.specs.Exact.{PointRows}
use Rattle.pc_flow.specs.Lists.{In}
use Rattle.pc_flow.proofs.Lists.{in_either}
use Rattle.pc_breach.specs.declared.step.Step.{Step}
use Rattle.pc_breach.specs.Following.{Standing, is_same, own_rows, choice, carried_step, step_over, step_over_some, first_of_two}

-- ---- the test for equal rows says what is meant

pub same_is : (a b : Linear) → is_same a b ≡ true → a ≡ b
same_is a b h =
    let both = and_parts (is_at_most a b) (is_at_most b a) h in
    let left = at_most_is a b both.0 in
    let right = (at_most_is b a both.1).1 in
    let low = left.1 in
    let same : a.constant ≡ b.constant = omega (arith, ints) in
    ap₂ (λ (c : ℤ) (cs : List ℤ). record { constant = c; coefficients = cs }) same left.0

at_most_itself : (a : Linear) → is_at_most a a ≡ true
at_most_itself a =
    let low : a.constant ≤ℤ a.constant = omega (arith, ints) in
    and_from (pointwise int_eq a.coefficients a.coefficients) (int_le a.constant a.constant) ((signed_items a.coefficients a.coefficients).1 refl) (is_le a.constant a.constant low)

pub is_itself : (a : Linear) → is_same a a ≡ true
is_itself a = and_from (is_at_most a a) (is_at_most a a) (at_most_itself a) (at_most_itself a)

any_in : (r : Linear) (rows : List Linear) → list_any (λ x. is_same x r) rows ≡ true → In r rows
any_in r [] h = absurd (cc)
any_in r (x ∷ rows) h = by (or_cases (is_same x r) (list_any (λ x. is_same x r) rows) h) (any_in r rows)
  where
    by : (is_same x r ≡ true) ⊎ (list_any (λ x. is_same x r) rows ≡ true) → (list_any (λ x. is_same x r) rows ≡ true → In r rows) → In r (x ∷ rows)
    by (inl k) more = inl (sym (same_is x r k))
    by (inr k) more = inr (more k)

pub in_any : (r : Linear) (rows : List Linear) → In r rows → list_any (λ x. is_same x r) rows ≡ true
in_any r [] m = absurd m
in_any r (x ∷ rows) (inl e) = or_left (is_same x r) (list_any (λ x. is_same x r) rows) (subst (λ (z : Linear). is_same z r ≡ true) e (is_itself r))
in_any r (x ∷ rows) (inr m) = or_right (is_same x r) (list_any (λ x. is_same x r) rows) (in_any r rows m)

-- ---- what a step over an edge is

-- the assertion's own row, or a row at the target that is carried back
abbrev pub Outcome : Standing → Arc → Linear → List Linear → Option ℤ → Option Linear → Type 0
Outcome at e r rows c None = In r (own_rows e.what) × (c ≡ Some (pos 0))
Outcome at e r rows c (Some z) = In z rows × (back e.what z ≡ r) × (c ≡ choice at e.what z)

pub record Taken (at : Standing) (e : Arc) (r : Linear) (rows : List Linear) (step : Step) : Type 0 where
  pub to : step.to ≡ e.to
  pub outcome : Outcome at e r rows step.choice step.row

abbrev pub onward_step : Standing → Arc → Linear → Step
onward_step at e z = record { choice = choice at e.what z; to = e.to; row = Some z }

abbrev pub last_step : Arc → Step
last_step e = record { choice = Some (pos 0); to = e.to; row = None }

abbrev pub later_step : Bool → PointRows → Linear → List Arc → Option Step
later_step only a r some = step_over_some (record { first = false; only = only }) a r some

taken_more : (at : Standing) (e : Arc) (r x : Linear) (rows : List Linear) (step : Step) → Taken at e r rows step → Taken at e r (x ∷ rows) step
taken_more at e r x rows step h = record { to = h.to; outcome = by step.choice step.row h.outcome }
  where
    by : (c : Option ℤ) (o : Option Linear) → Outcome at e r rows c o → Outcome at e r (x ∷ rows) c o
    by c None k = k
    by c (Some z) k = (inr k.0, k.1, k.2)

carried_taken : (at : Standing) (e : Arc) (r : Linear) (rows : List Linear) (step : Step) → carried_step at e r rows ≡ Some step → Taken at e r rows step
carried_taken at e r [] step is = absurd (cc)
carried_taken at e r (z ∷ rows) step is = by (is_same (back e.what z) r) refl is (λ more. taken_more at e r z rows step (carried_taken at e r rows step more))
  where
    by : (t : Bool) → is_same (back e.what z) r ≡ t → cond t (Some (onward_step at e z)) (carried_step at e r rows) ≡ Some step →
        (carried_step at e r rows ≡ Some step → Taken at e r (z ∷ rows) step) → Taken at e r (z ∷ rows) step
    by true same is more =
        let it : (onward_step at e z) ≡ step = cc in
        let taken : Taken at e r (z ∷ rows) (onward_step at e z) = record { to = refl; outcome = (inl refl, same_is (back e.what z) r same, refl) } in
        subst (Taken at e r (z ∷ rows)) it taken
    by false same is more = more is

pub over_taken : (at : Standing) (e : Arc) (r : Linear) (rows : List Linear) (step : Step) → step_over at e r rows ≡ Some step → Taken at e r rows step
over_taken at e r rows step is = by (list_any (λ x. is_same x r) (own_rows e.what)) refl is
  where
    by : (t : Bool) → list_any (λ x. is_same x r) (own_rows e.what) ≡ t → cond t (Some (last_step e)) (carried_step at e r rows) ≡ Some step → Taken at e r rows step
    by true own is =
        let it : (last_step e) ≡ step = cc in
        let taken : Taken at e r rows (last_step e) = record { to = refl; outcome = (any_in r (own_rows e.what) own, refl) } in
        subst (Taken at e r rows) it taken
    by false own is = carried_taken at e r rows step is

-- ---- an owed row has a step

abbrev pub HasStep : Option Step → Type 0
HasStep o = (step : Step) × (o ≡ Some step)

carried_there : (at : Standing) (e : Arc) (r : Linear) (rows : List Linear) → In r (back_all e.what rows) → HasStep (carried_step at e r rows)
carried_there at e r [] m = absurd m
carried_there at e r (z ∷ rows) m = by (is_same (back e.what z) r) refl m (carried_there at e r rows)
  where
    by : (t : Bool) → is_same (back e.what z) r ≡ t → In r (back_all e.what (z ∷ rows)) → (In r (back_all e.what rows) → HasStep (carried_step at e r rows)) →
        HasStep (cond t (Some (onward_step at e z)) (carried_step at e r rows))
    by true same m more = (onward_step at e z, refl)
    by false same (inl k) more =
        let it : is_same (back e.what z) r ≡ true = subst (λ (x : Linear). is_same x r ≡ true) k (is_itself r) in
        absurd (cc)
    by false same (inr k) more = more k

-- what an edge owes is its own, or is carried back
own_or_carried : (w : What) (r : Linear) (rows : List Linear) → In r (owes w rows) → In r (own_rows w) ⊎ In r (back_all w rows)
own_or_carried (Enter n) r rows m = inr m
own_or_carried (Test own) r rows m = inr m
own_or_carried (Set x f lo hi) r rows m = inr m
own_or_carried (Check own) r rows m = by (in_either r own rows m)
  where
    kept : (zs : List Linear) → back_all (Check own) zs ≡ zs
    kept [] = refl
    kept (z ∷ zs) = ap (λ (y : List Linear). z ∷ y) (kept zs)

    by : In r own ⊎ In r rows → In r own ⊎ In r (back_all (Check own) rows)
    by (inl k) = inl k
    by (inr k) = inr (subst (In r) (sym (kept rows)) k)

pub over_there : (at : Standing) (e : Arc) (r : Linear) (rows : List Linear) → In r (owes e.what rows) → HasStep (step_over at e r rows)
over_there at e r rows m = by (list_any (λ x. is_same x r) (own_rows e.what)) refl (own_or_carried e.what r rows m)
  where
    by : (t : Bool) → list_any (λ x. is_same x r) (own_rows e.what) ≡ t → In r (own_rows e.what) ⊎ In r (back_all e.what rows) → HasStep (cond t (Some (last_step e)) (carried_step at e r rows))
    by true own k = (last_step e, refl)
    by false own (inl k) = let it = in_any r (own_rows e.what) k in absurd (cc)
    by false own (inr k) = carried_there at e r rows k

pub some_there : (at : Standing) (a : PointRows) (r : Linear) (some : List Arc) (e : Arc) → In e some → In r (owes e.what (a e.to)) → HasStep (step_over_some at a r some)
some_there at a r [] e m owed = absurd m
some_there at a r (f ∷ some) e m owed = by (step_over at f r (a f.to)) refl m (λ k. some_there (record { first = false; only = at.only }) a r some e k owed)
  where
    by : (o : Option Step) → step_over at f r (a f.to) ≡ o → In e (f ∷ some) → (In e some → HasStep (later_step at.only a r some)) → HasStep (first_of_two o (later_step at.only a r some))
    by (Some step) over m more = (step, refl)
    by None over (inl k) more = let there = over_there at f r (a f.to) (subst (λ (z : Arc). In r (owes z.what (a z.to))) k owed) in let is = there.1 in absurd (cc)
    by None over (inr k) more = more k

-- ---- which edge it is over

-- how an edge stands among those from its point
abbrev pub Stands : List Arc → Arc → Standing → Type 0
Stands [] e at = ⊥
Stands (f ∷ []) e at = (e ≡ f) × (at.only ≡ true)
Stands (f ∷ g ∷ more) e at = (at.only ≡ false) × (((e ≡ f) × (at.first ≡ true)) ⊎ (In e (g ∷ more) × (at.first ≡ false)))

abbrev TakenLater : Bool → PointRows → Linear → List Arc → Step → Type 0
TakenLater only a r some step = (e : Arc) × In e some × Taken (record { first = false; only = only }) e r (a e.to) step

later_taken : (only : Bool) (a : PointRows) (r : Linear) (some : List Arc) (step : Step) → step_over_some (record { first = false; only = only }) a r some ≡ Some step → TakenLater only a r some step
later_taken only a r [] step is = absurd (cc)
later_taken only a r (f ∷ some) step is = by (step_over (record { first = false; only = only }) f r (a f.to)) refl is (λ k. later_taken only a r some step k)
  where
    by : (o : Option Step) → step_over (record { first = false; only = only }) f r (a f.to) ≡ o → first_of_two o (later_step only a r some) ≡ Some step → ((later_step only a r some) ≡ Some step → TakenLater only a r some step) →
        TakenLater only a r (f ∷ some) step
    by (Some z) over is more = (f, inl refl, over_taken (record { first = false; only = only }) f r (a f.to) step (over ∙ is))
    by None over is more = let k = more is in (k.0, inr k.1, k.2)

abbrev pub TakenFrom : PointRows → Linear → List Arc → Step → Type 0
TakenFrom a r some step = (e : Arc) × (at : Standing) × In e some × Stands some e at × Taken at e r (a e.to) step

pub point_taken : (a : PointRows) (r : Linear) (some : List Arc) (step : Step) → step_over_some (record { first = true; only = length some == 1 }) a r some ≡ Some step → TakenFrom a r some step
point_taken a r [] step is = absurd (cc)
point_taken a r (f ∷ []) step is = by (step_over (record { first = true; only = true }) f r (a f.to)) refl is
  where
    by : (o : Option Step) → step_over (record { first = true; only = true }) f r (a f.to) ≡ o → first_of_two o None ≡ Some step → TakenFrom a r (f ∷ []) step
    by (Some z) over is = (f, record { first = true; only = true }, inl refl, (refl, refl), over_taken (record { first = true; only = true }) f r (a f.to) step (over ∙ is))
    by None over is = absurd (cc)
point_taken a r (f ∷ g ∷ more) step is =
    by (step_over (record { first = true; only = false }) f r (a f.to)) refl (subst (λ (t : Bool). step_over_some (record { first = true; only = t }) a r (f ∷ g ∷ more) ≡ Some step) several is)
  where
    several : (length (f ∷ g ∷ more) == 1) ≡ false
    several = grind (arith, nat_tests)

    by : (o : Option Step) → step_over (record { first = true; only = false }) f r (a f.to) ≡ o →
        first_of_two o (step_over_some (record { first = false; only = false }) a r (g ∷ more)) ≡ Some step → TakenFrom a r (f ∷ g ∷ more) step
    by (Some z) over is = (f, record { first = true; only = false }, inl refl, (refl, inl (refl, refl)), over_taken (record { first = true; only = false }) f r (a f.to) step (over ∙ is))
    by None over is =
        let k = later_taken false a r (g ∷ more) step is in
        (k.0, record { first = false; only = false }, inr k.1, (refl, inr (k.1, refl)), k.2)
