-- The walk on which a row that is not met is followed: it takes the choices, and comes to an assertion that does not hold.
use Rattle.std.proofs.Common.{◌≡◌, ◌∙◌, ◌==◌, ℕ, zero, suc, ◌+◌, ◌≤◌, ℤ, pos, ◌+ℤ◌, ◌≤ℤ◌, List, [], ◌∷◌, ◌++◌, length, Bool, true, false, cond, refl, sym, ap, subst, arith, inl, inr, Option, Some, None, append_assoc, length-set}
use Rattle.std.specs.Prelude.{◌⊎◌, slice_set, option_to_list}
use Rattle.std.specs.List.{AllByRecursion as Each}
use Rattle.std.proofs.lemmas.Bool.Decides.{eqb_tells}
use Rattle.pc_language.specs.Ends.{end_of}
use Rattle.pc_rows.specs.Linear.{Linear, State, value, Meets, MeetsAll, coefficient, zero_from}
use Rattle.pc_rows.proofs.First.{value_of_first, zero_from_long}
use Rattle.pc_program.specs.Machine.{clamped}
use Rattle.pc_flow.specs.Annotation.{rows_at}
use Rattle.pc_flow.specs.declared.what.What.{What}
use Rattle.pc_flow.specs.declared.what.What.TheVariants.{Enter, Test, Set, Check}
use Rattle.pc_flow.specs.Arc.{Arc, IsFit}
use Rattle.pc_flow.specs.Carry.{back, HasVariable}
use Rattle.pc_flow.specs.Exact.{PointRows, NoRows, StraightEdge}
use Rattle.pc_flow.specs.Flow.{Flow}
use Rattle.pc_flow.specs.Incidence.{leaving}
use Rattle.pc_flow.specs.Lists.{In}
use Rattle.pc_flow.specs.Shape.{IsGraph}
use Rattle.pc_flow.specs.Walk.{Keeps, entered}
use Rattle.pc_flow.proofs.Lists.{each_at, each_of_members}
use Rattle.pc_rows.proofs.Carrying.{substitution_is_exact}
use Rattle.pc_lower.proofs.Meaning.{need_is}
use Rattle.pc_lower.specs.Annotation.{no_rows}
use Rattle.pc_lower.proofs.Paying.{no_head, need_is_owed}
use Rattle.pc_graph.specs.Choices.{Sides, Takes, Chosen, and_then}
use Rattle.pc_breach.specs.declared.step.Step.{Step}
use Rattle.pc_breach.specs.Answers.{needed}
use Rattle.pc_breach.specs.Following.{Standing, own_rows, choice, end_for, after_row, after_step, followed}
use Rattle.pc_breach.specs.Graphs.{IsClosed, IsStraight}
use Rattle.pc_breach.specs.Laws.{ChoicesBreak}
use Rattle.pc_breach.proofs.First.{IsFirst, Leads, FirstOver, leads, first_in, first_unmet, point_first, goes_on}
use Rattle.pc_breach.proofs.Ends.{end_breaks, chosen_within}
use Rattle.pc_breach.proofs.Same.{Taken, over_taken, Outcome, Stands, some_there}

meets_at : (s : State) (rows : List Linear) (r : Linear) → MeetsAll s rows → In r rows → Meets s r
meets_at s [] r h m = absurd m
meets_at s (x ∷ xs) r h (inl e) = subst (Meets s) (sym e) h.0
meets_at s (x ∷ xs) r h (inr m) = meets_at s xs r h.1 m

-- the edges that leave a point are edges, and leave it
pub leaving_in : (p : ℕ) (edges : List Arc) (e : Arc) → In e (leaving p edges) → In e edges × (e.from ≡ p)
leaving_in p [] e m = absurd m
leaving_in p (f ∷ edges) e m = by (eqb_tells f.from p) m (leaving_in p edges e)
  where
    by : (((f.from == p) ≡ true) × (f.from ≡ p)) ⊎ (((f.from == p) ≡ false) × (f.from ≡ p → ⊥)) → In e (cond (f.from == p) (f ∷ leaving p edges) (leaving p edges)) →
        (In e (leaving p edges) → In e edges × (e.from ≡ p)) → In e (f ∷ edges) × (e.from ≡ p)
    by (inl k) m more = first (subst (λ (t : Bool). In e (cond t (f ∷ leaving p edges) (leaving p edges))) k.0 m)
      where
        first : (e ≡ f) ⊎ In e (leaving p edges) → In e (f ∷ edges) × (e.from ≡ p)
        first (inl same) = (inl same, ap (λ (z : Arc). z.from) same ∙ k.1)
        first (inr later) = let h = more later in (inr h.0, h.1)
    by (inr k) m more = let h = more (subst (λ (t : Bool). In e (cond t (f ∷ leaving p edges) (leaving p edges))) k.0 m) in (inr h.0, h.1)

in_leaving : (p : ℕ) (edges : List Arc) (e : Arc) → In e edges → e.from ≡ p → In e (leaving p edges)
in_leaving p [] e m from = absurd m
in_leaving p (f ∷ edges) e m from = by (eqb_tells f.from p) m (λ k. in_leaving p edges e k from)
  where
    by : (((f.from == p) ≡ true) × (f.from ≡ p)) ⊎ (((f.from == p) ≡ false) × (f.from ≡ p → ⊥)) → In e (f ∷ edges) → (In e edges → In e (leaving p edges)) →
        In e (cond (f.from == p) (f ∷ leaving p edges) (leaving p edges))
    by (inl k) (inl same) more = subst (λ (t : Bool). In e (cond t (f ∷ leaving p edges) (leaving p edges))) (sym k.0) (inl same)
    by (inl k) (inr m) more = subst (λ (t : Bool). In e (cond t (f ∷ leaving p edges) (leaving p edges))) (sym k.0) (inr (more m))
    by (inr k) (inl same) more = absurd (k.1 (sym (ap (λ (z : Arc). z.from) same) ∙ from))
    by (inr k) (inr m) more = subst (λ (t : Bool). In e (cond t (f ∷ leaving p edges) (leaving p edges))) (sym k.0) (more m)

-- ---- one edge

abbrev side : Standing → Option ℤ
side at = cond at.only None (Some (cond at.first (pos 1) (pos 0)))

-- the choice at a test is that of its side
sides : (out : List Arc) (e : Arc) (at : Standing) → Stands out e at → Sides out e (side at)
sides [] e at h = absurd h
sides (f ∷ []) e at h = ap (λ (t : Bool). cond t None (Some (cond at.first (pos 1) (pos 0)))) h.1
sides (f ∷ g ∷ more) e at (only, inl h) =
    inl (h.0, ap (λ (t : Bool). cond t None (Some (cond at.first (pos 1) (pos 0)))) only ∙ ap (λ (t : Bool). Some (cond t (pos 1) (pos 0))) h.1)
sides (f ∷ g ∷ more) e at (only, inr h) =
    inr (h.0, ap (λ (t : Bool). cond t None (Some (cond at.first (pos 1) (pos 0)))) only ∙ ap (λ (t : Bool). Some (cond t (pos 1) (pos 0))) h.1)

-- the edge leads by the choice to a state that does not meet row z, and that meets what was met before it was carried back
abbrev Onward : List Arc → Arc → Standing → What → State → Linear → Type 0
Onward out e at w t z = (u : State) × Takes out e w t u (choice at w z) × (Meets u z → ⊥) × ((x : Linear) → Meets t (back w x) → Meets u x)

onward : (out : List Arc) (e : Arc) (at : Standing) (w : What) (t : State) (z : Linear) → NoRows w → IsFit w → IsClosed w → HasVariable w t → Stands out e at → MeetsAll t (own_rows w) →
    (Meets t (back w z) → ⊥) → Onward out e at w t z
onward out e at (Enter n) t z free fit closed has stands own_met bad =
    let q = value_of_first n z t in
    (zero_from n t, (refl, refl), (λ m. bad (subst (λ k. pos 0 ≤ℤ k) (sym q) m)), (λ x m. subst (λ k. pos 0 ≤ℤ k) (value_of_first n x t) m))
onward out e at (Test own) t z free fit closed has stands own_met bad =
    (t, (sides out e at stands, subst (MeetsAll t) (sym free) tt, refl), bad, (λ x m. m))
onward out e at (Set x f lo hi) t z free fit closed has stands own_met bad =
    let c = end_for (coefficient z x) (end_of lo) (end_of hi) in
    let within = chosen_within (end_of lo) (end_of hi) c fit.1.ordered closed.0 closed.1 in (
      slice_set t x (value f t +ℤ clamped (end_of lo) (end_of hi) c),
      (c, refl, refl),
      end_breaks z f x (end_of lo) (end_of hi) t has fit.1.ordered closed.0 closed.1 bad,
      (λ y m. (substitution_is_exact y f x (end_of lo) (end_of hi) t has fit.1.ordered).0 m (clamped (end_of lo) (end_of hi) c) within.0 within.1),
    )
onward out e at (Check own) t z free fit closed has stands own_met bad = (t, (refl, own_met, refl), bad, (λ x m. m))

-- an assertion one of whose rows is not met does not hold
own_breaks : (w : What) (t : State) (r : Linear) → In r (own_rows w) → (Meets t r → ⊥) → Keeps w t → ⊥
own_breaks (Enter n) t r m bad keeps = m
own_breaks (Test own) t r m bad keeps = m
own_breaks (Set x f lo hi) t r m bad keeps = m
own_breaks (Check own) t r m bad keeps = bad (meets_at t own r keeps m)

takes_long : (out : List Arc) (e : Arc) (w : What) (t u : State) (o : Option ℤ) → Takes out e w t u o → length u ≡ length t
takes_long out e (Enter n) t u o h = ap length h.1 ∙ zero_from_long n t
takes_long out e (Test own) t u o h = ap length h.2
takes_long out e (Set x f lo hi) t u o h = ap length h.2 ∙ length-set t x (value f t +ℤ clamped (end_of lo) (end_of hi) h.0)
takes_long out e (Check own) t u o h = ap length h.2

-- ---- the walk

then_list : (before : List ℤ) (o : Option ℤ) (rest : List ℤ) → and_then before o ++ rest ≡ before ++ (option_to_list o ++ rest)
then_list before None rest = refl
then_list before (Some c) rest = append_assoc before (c ∷ []) rest

module _ (g : Flow) (s : State) (is : IsGraph g) (straight : IsStraight g) (all : Each (StraightEdge (length g.points) g.variables) g.edges) where
  abbrev needs : PointRows
  needs = rows_at (needed g)

  abbrev Goes : List Arc → ℕ → State → List ℤ → Type 0
  Goes es p t before = Chosen g.edges 0 (entered g s) es p t before

  edge_at : (e : Arc) → In e g.edges → StraightEdge (length g.points) g.variables e
  edge_at e m = each_at (StraightEdge (length g.points) g.variables) g.edges e all m

  -- a step over an edge, from a state for which the row that is followed is the first that it does not meet
  over : (later : ℕ → Linear → List ℤ) (e : Arc) (at : Standing) (r : Linear) (t : State) (es : List Arc) (before : List ℤ) (step : Step) → In e g.edges → Stands (leaving e.from g.edges) e at →
      length t ≡ g.variables → Goes es e.from t before → (Meets t r → ⊥) → FirstOver t needs r e at step →
      ((u : State) (es : List Arc) (z : Linear) (before : List ℤ) → Goes es e.to u before → length u ≡ g.variables → IsFirst u (needs e.to) z → ChoicesBreak g s (before ++ later e.to z)) →
      ChoicesBreak g s (before ++ (option_to_list step.choice ++ after_row (later e.to) step.row))
  over later e at r t es before step m stands long walk bad first go = by step.row refl taken.outcome
    where
      taken : Taken at e r (needs e.to) step
      taken = over_taken at e r (needs e.to) step first.0

      by : (o : Option Linear) → step.row ≡ o → Outcome at e r (needs e.to) step.choice o → ChoicesBreak g s (before ++ (option_to_list step.choice ++ after_row (later e.to) o))
      by None row h =
          (es, e.from, t, before, walk, ap (λ (c : Option ℤ). before ++ (option_to_list c ++ [])) h.1, (e, m, refl, own_breaks e.what t r h.0 bad))
      by (Some z) row h =
          let st = edge_at e m in
          let on = goes_on at e r z t (needs e.to) step first.0 row first.1 in
          let not_met : Meets t (back e.what z) → ⊥ = λ k. bad (subst (Meets t) h.1 k) in
          let k = onward (leaving e.from g.edges) e at e.what t z st.free st.fits (each_at (λ e. IsClosed e.what) g.edges e straight.ends m) (st.assigns t long) stands on.0 not_met in
          let u = k.0 in
          let c = choice at e.what z in
          let next = go u (e ∷ es) z (and_then before c) (refl, m, (t, c, before, k.1, refl, walk)) (takes_long (leaving e.from g.edges) e e.what t u c k.1 ∙ long) (on.1 u k.3 k.2) in
          subst (ChoicesBreak g s) (then_list before c (later e.to z) ∙ ap (λ (o : Option ℤ). before ++ (option_to_list o ++ later e.to z)) (sym h.2)) next

  -- no edge from a point has a test with rows
  frees : (p : ℕ) → Each (λ e. NoRows e.what) (leaving p g.edges)
  frees p = each_of_members (λ e. NoRows e.what) (leaving p g.edges) (λ e m. (edge_at e (leaving_in p g.edges e m).0).free)

  leads_from : (p : ℕ) (r : Linear) (t : State) → IsFirst t (needs p) r → Leads t needs r (leaving p g.edges)
  leads_from p r t first =
      let needed_here = (need_is g is.leads (no_rows g.points)).needed p (no_head g.points p straight.heads) in
      leads t needs [] (leaving p g.edges) r (frees p) tt (subst (λ (rows : List Linear). IsFirst t rows r) needed_here first)

  pub from_point : (n p : ℕ) (r : Linear) (t : State) (es : List Arc) (before : List ℤ) → length g.points ≤ p + n → Goes es p t before → length t ≡ g.variables →
      IsFirst t (needs p) r → ChoicesBreak g s (before ++ followed g.edges needs n p r)
  from_point zero p r t es before far walk long first =
      let h = need_is_owed g (no_rows g.points) is straight.heads p r (first_in t (needs p) r first) in
      let st = edge_at h.0 h.1 in
      let from = h.2 in
      let up = st.rises in
      let down = st.within in
      absurd (omega arith)
  from_point (suc n) p r t es before far walk long first =
      let h = need_is_owed g (no_rows g.points) is straight.heads p r (first_in t (needs p) r first) in
      let there = some_there (record { first = true; only = length (leaving p g.edges) == 1 }) needs r (leaving p g.edges) h.0 (in_leaving p g.edges h.0 h.1 h.2) h.3 in
      let step = there.0 in
      let bad = first_unmet t (needs p) r first in
      let picked = point_first t needs r (leaving p g.edges) step bad (leads_from p r t first) there.1 in
      let e = picked.0 in
      let inside = leaving_in p g.edges e picked.2 in
      let st = edge_at e inside.0 in
      let up = st.rises in
      let from = inside.1 in
      let stands = subst (λ (q : ℕ). Stands (leaving q g.edges) e picked.1) (sym from) picked.3 in
      let walk2 = subst (λ (q : ℕ). Goes es q t before) (sym from) walk in
      let to = (over_taken picked.1 e r (needs e.to) step picked.4.0).to in
      let result = over (followed g.edges needs n) e picked.1 r t es before step inside.0 stands long walk2 bad picked.4
      (λ u es z before walk long first. from_point n e.to z u es before (omega arith) walk long first) in
      subst (λ (o : Option Step). ChoicesBreak g s (before ++ after_step (followed g.edges needs n) o)) (sym there.1)
      (subst (λ (q : ℕ). ChoicesBreak g s (before ++ (option_to_list step.choice ++ after_row (followed g.edges needs n q) step.row))) (sym to) result)
