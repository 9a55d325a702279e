-- Searches for the first owed row that is followed: rows, edges, and the point to which the step leads.
use Rattle.std.proofs.Common.{◌≡◌, ◌∙◌, ◌==◌, ℕ, zero, suc, ◌+◌, ◌<◌, ◌≤◌, List, [], ◌∷◌, drop, length, pos, Bool, true, false, cond, refl, sym, ap, subst, arith, Option, Some, None, slice_get}
use Rattle.std.specs.Prelude.{◌||◌, is_some}
use Rattle.std.specs.List.{AllByRecursion as Each, list_any}
use Rattle.std.proofs.lemmas.Bool.Decides.{nat_tests}
use Rattle.std.proofs.lemmas.List.{drop_all}
use Rattle.pc_rows.specs.Linear.{Linear}
use Rattle.pc_rows.proofs.Adding.{drop_got}
use Rattle.pc_rows.proofs.Joining.{each_left, each_right}
use Rattle.pc_flow.specs.declared.what.What.{What}
use Rattle.pc_flow.specs.Arc.{Arc}
use Rattle.pc_flow.specs.Carry.{back, BackFits}
use Rattle.pc_flow.specs.Exact.{PointRows}
use Rattle.pc_flow.specs.Incidence.{leaving, numbers_leaving}
use Rattle.pc_flow.proofs.Numbers.{numbers_long, numbers_are_theirs}
use Rattle.pc_lower.specs.Course.{edges_carries}
use Rattle.pc_lower.specs.Operations.{Fits, carries}
use Rattle.pc_breach.specs.declared.step.Step.{Step}
use Rattle.pc_breach.specs.Following.{Standing, is_same, own_rows, choice, carried_step, step_over, step_over_some, first_of_two, step_from}

-- ---- some item passes a test

module _ {A : Type 0} (f : A → Bool) (xs : List A) (i : ℕ) (x : A) (at : slice_get xs i ≡ Some x) (so_far : list_any f (drop i xs) ≡ list_any f xs) where
  opened : (f x || list_any f (drop (i + 1) xs)) ≡ list_any f xs
  opened = sym (ap (list_any f) (drop_got xs i x at)) ∙ so_far

  pub any_found : f x ≡ true → true ≡ list_any f xs
  any_found t = sym (ap (λ b. b || list_any f (drop (i + 1) xs)) t) ∙ opened

  pub any_next : f x ≡ false → list_any f (drop (i + 1) xs) ≡ list_any f xs
  any_next t = sym (ap (λ b. b || list_any f (drop (i + 1) xs)) t) ∙ opened

-- ---- the rows at an edge's target

-- each row at the target is carried back in range
pub carried_at : (w : What) (rows : List Linear) (i : ℕ) (z : Linear) → Each Fits (carries w rows) → slice_get rows i ≡ Some z → BackFits w z
carried_at w [] i z h got = absurd (cc)
carried_at w (y ∷ rows) zero z h got = let same : y ≡ z = cc in subst (BackFits w) same h.0
carried_at w (y ∷ rows) (suc i) z h got = carried_at w rows i z h.1 got

module _ (at : Standing) (e : Arc) (r : Linear) (rows : List Linear) (i : ℕ) (z : Linear) (got : slice_get rows i ≡ Some z) (so_far : carried_step at e r (drop i rows) ≡ carried_step at e r rows) where
  abbrev found : Option Step
  found = Some (record { choice = choice at e.what z; to = e.to; row = Some z })

  row_opened : cond (is_same (back e.what z) r) found (carried_step at e r (drop (i + 1) rows)) ≡ carried_step at e r rows
  row_opened = sym (ap (carried_step at e r) (drop_got rows i z got)) ∙ so_far

  pub row_found : is_same (back e.what z) r ≡ true → found ≡ carried_step at e r rows
  row_found t = sym (ap (λ (b : Bool). cond b found (carried_step at e r (drop (i + 1) rows))) t) ∙ row_opened

  pub row_next : is_same (back e.what z) r ≡ false → carried_step at e r (drop (i + 1) rows) ≡ carried_step at e r rows
  row_next t = sym (ap (λ (b : Bool). cond b found (carried_step at e r (drop (i + 1) rows))) t) ∙ row_opened

-- ---- the edges from a point

-- the rows at the target of each edge are carried back in range
pub carried_over : (a : PointRows) (some : List Arc) (k : ℕ) (e : Arc) → Each Fits (edges_carries a some) → slice_get some k ≡ Some e → Each Fits (carries e.what (a e.to))
carried_over a [] k e h got = absurd (cc)
carried_over a (f ∷ some) zero e h got =
    let same : f ≡ e = cc in
    subst (λ (z : Arc). Each Fits (carries z.what (a z.to))) same (each_left Fits (carries f.what (a f.to)) (edges_carries a some) h)
carried_over a (f ∷ some) (suc k) e h got = carried_over a some k e (each_right Fits (carries f.what (a f.to)) (edges_carries a some) h) got

not_first : (k : ℕ) → (k + 1 == 0) ≡ false
not_first k = grind (arith, nat_tests)

-- how the edge in place k of those from a point stands
abbrev pub standing : Bool → ℕ → Standing
standing only k = record { first = k == 0; only = only }

module _ (only : Bool) (a : PointRows) (r : Linear) (some : List Arc) where
  -- no edge before place k owes the row
  abbrev pub Searched : ℕ → Type 0
  Searched k = step_over_some (standing only k) a r (drop k some) ≡ step_over_some (standing only 0) a r some

  module _ (k : ℕ) (e : Arc) (got : slice_get some k ≡ Some e) (so_far : Searched k) where
    abbrev later : Option Step
    later = step_over_some (record { first = false; only = only }) a r (drop (k + 1) some)

    edge_opened : first_of_two (step_over (standing only k) e r (a e.to)) later ≡ step_over_some (standing only 0) a r some
    edge_opened = sym (ap (step_over_some (standing only k) a r) (drop_got some k e got)) ∙ so_far

    -- what the edge gives, if it gives a step
    pub edge_found : (step : Option Step) → step ≡ step_over (standing only k) e r (a e.to) → is_some step ≡ true → step ≡ step_over_some (standing only 0) a r some
    edge_found None is there = absurd (cc)
    edge_found (Some step) is there = ap (λ (z : Option Step). first_of_two z later) is ∙ edge_opened

    pub edge_next : (step : Option Step) → step ≡ step_over (standing only k) e r (a e.to) → is_some step ≡ false → Searched (k + 1)
    edge_next (Some step) is none = absurd (cc)
    edge_next None is none =
        ap (λ (b : Bool). step_over_some (record { first = b; only = only }) a r (drop (k + 1) some)) (not_first k)
        ∙ ap (λ (z : Option Step). first_of_two z later) is ∙ edge_opened

  pub edges_done : (k : ℕ) → length some ≤ k → Searched k → None ≡ step_over_some (standing only 0) a r some
  edges_done k le so_far = sym (ap (step_over_some (standing only k) a r) (drop_all k some le)) ∙ so_far

-- a point has as many edges as numbers of edges
pub by_numbers : (edges : List Arc) (a : PointRows) (p : ℕ) (r : Linear) (numbers : List ℕ) (step : Option Step) → numbers ≡ numbers_leaving p edges →
    step ≡ step_over_some (standing (length numbers == 1) 0) a r (leaving p edges) → step ≡ step_from edges a p r
by_numbers edges a p r numbers step listed is =
    let long : length numbers ≡ length (leaving p edges) =
    ap (λ (z : List ℕ). length z) listed ∙ numbers_long edges (numbers_leaving p edges) (leaving p edges) (numbers_are_theirs edges p).leaving in
    is ∙ ap (λ (n : ℕ). step_over_some (standing (n == 1) 0) a r (leaving p edges)) long

-- ---- where a step leads

carried_leads : (n : ℕ) (at : Standing) (e : Arc) (r : Linear) (rows : List Linear) (step : Step) → e.to < n → carried_step at e r rows ≡ Some step → step.to < n
carried_leads n at e r [] step lt is = absurd (cc)
carried_leads n at e r (z ∷ rows) step lt is = by (is_same (back e.what z) r) is (carried_leads n at e r rows step lt)
  where
    by : (t : Bool) → cond t (Some (record { choice = choice at e.what z; to = e.to; row = Some z })) (carried_step at e r rows) ≡ Some step →
        (carried_step at e r rows ≡ Some step → step.to < n) → step.to < n
    by true is more = let same : record { choice = choice at e.what z; to = e.to; row = Some z } ≡ step = cc in subst (λ (s : Step). s.to < n) same lt
    by false is more = more is

over_leads : (n : ℕ) (at : Standing) (e : Arc) (r : Linear) (rows : List Linear) (step : Step) → e.to < n → step_over at e r rows ≡ Some step → step.to < n
over_leads n at e r rows step lt is = by (list_any (λ x. is_same x r) (own_rows e.what)) is
  where
    by : (t : Bool) → cond t (Some (record { choice = Some (pos 0); to = e.to; row = None })) (carried_step at e r rows) ≡ Some step → step.to < n
    by true is = let same : record { choice = Some (pos 0); to = e.to; row = None } ≡ step = cc in subst (λ (s : Step). s.to < n) same lt
    by false is = carried_leads n at e r rows step lt is

-- the step from a point leads to a point to which some edge leads
pub some_leads : (n : ℕ) (at : Standing) (a : PointRows) (r : Linear) (some : List Arc) (step : Step) → Each (λ e. e.to < n) some → step_over_some at a r some ≡ Some step → step.to < n
some_leads n at a r [] step h is = absurd (cc)
some_leads n at a r (e ∷ some) step h is = by (step_over at e r (a e.to)) refl is (λ rest. some_leads n (record { first = false; only = at.only }) a r some step h.1 rest)
  where
    by : (o : Option Step) → step_over at e r (a e.to) ≡ o → first_of_two o (step_over_some (record { first = false; only = at.only }) a r some) ≡ Some step →
        (step_over_some (record { first = false; only = at.only }) a r some ≡ Some step → step.to < n) → step.to < n
    by None over is more = more is
    by (Some z) over is more = over_leads n at e r (a e.to) step h.0 (over ∙ is)
