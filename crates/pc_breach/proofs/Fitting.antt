-- The choices are in range, and a script holds them.
use Rattle.std.proofs.Common.{◌≡◌, ℕ, zero, suc, ◌≤◌, ℤ, pos, List, [], ◌∷◌, ◌++◌, length, Bool, true, false, cond, refl, sym, subst, arith, Option, Some, None}
use Rattle.std.specs.Prelude.{int_lt, unwrap_or, option_to_list}
use Rattle.std.specs.List.{AllByRecursion as Each, list_all}
use Rattle.std.proofs.lemmas.Bool.{and_from}
use Rattle.std.proofs.lemmas.Bool.Decides.{nat_tests}
use Rattle.pc_language.specs.Ends.{end_of}
use Rattle.pc_text.specs.Numerals.{is_in_range}
use Rattle.pc_rows.specs.Linear.{Linear, InRange, coefficient}
use Rattle.pc_rows.specs.Substitution.{IsEnd}
use Rattle.pc_runner.proofs.ScriptLines.{all_appended}
use Rattle.pc_runner.specs.declared.script.TheConstants.{CHOICES}
use Rattle.pc_flow.specs.Annotation.{rows_at}
use Rattle.pc_flow.specs.declared.what.What.{What}
use Rattle.pc_flow.specs.declared.what.What.TheVariants.{Enter, Test, Set, Check}
use Rattle.pc_flow.specs.Arc.{Arc, IsFit}
use Rattle.pc_flow.specs.Exact.{PointRows}
use Rattle.pc_flow.specs.Incidence.{leaving}
use Rattle.pc_flow.proofs.Lists.{each_at}
use Rattle.pc_breach.specs.declared.step.Step.{Step}
use Rattle.pc_breach.specs.Answers.{needed, entry_rows}
use Rattle.pc_breach.specs.Entry.{first_broken}
use Rattle.pc_breach.specs.Following.{Standing, choice, end_for, after_row, after_step, step_from, followed}
use Rattle.pc_breach.specs.Laws.{ChoicesAreFit}
use Rattle.pc_breach.proofs.Going.{leaving_in}
use Rattle.pc_breach.proofs.Same.{Outcome, point_taken}

-- a choice that a script takes, if there is one
abbrev Takeable : Option ℤ → Type 0
Takeable None = Unit {0}
Takeable (Some c) = is_in_range c ≡ true

in_range_test : (c : ℤ) → InRange c → is_in_range c ≡ true
in_range_test c h = grind (arith, nat_tests)

end_fits : (end : Option ℤ) → IsEnd end → is_in_range (unwrap_or end (pos 0)) ≡ true
end_fits None h = refl
end_fits (Some c) h = in_range_test c h

end_for_fits : (c : ℤ) (lo hi : Option ℤ) → IsEnd lo → IsEnd hi → is_in_range (end_for c lo hi) ≡ true
end_for_fits c lo hi low high = by (int_lt (pos 0) c) (int_lt c (pos 0))
  where
    by : (t u : Bool) → is_in_range (cond t (unwrap_or lo (pos 0)) (cond u (unwrap_or hi (pos 0)) (pos 0))) ≡ true
    by true u = end_fits lo low
    by false true = end_fits hi high
    by false false = refl

side_fits : (first only : Bool) → Takeable (cond only None (Some (cond first (pos 1) (pos 0))))
side_fits first true = tt
side_fits true false = refl
side_fits false false = refl

choice_fits : (at : Standing) (w : What) (z : Linear) → IsFit w → Takeable (choice at w z)
choice_fits at (Enter n) z fit = tt
choice_fits at (Test own) z fit = side_fits at.first at.only
choice_fits at (Set x f lo hi) z fit = end_for_fits (coefficient z x) (end_of lo) (end_of hi) fit.1.low fit.1.high
choice_fits at (Check own) z fit = refl

outcome_fits : (at : Standing) (e : Arc) (r : Linear) (rows : List Linear) (c : Option ℤ) (o : Option Linear) → IsFit e.what → Outcome at e r rows c o → Takeable c
outcome_fits at e r rows c None fit h = subst Takeable (sym h.1) refl
outcome_fits at e r rows c (Some z) fit h = subst Takeable (sym h.2) (choice_fits at e.what z fit)

-- what of n steps a script takes
abbrev FitList : ℕ → List ℤ → Type 0
FitList n cs = (list_all is_in_range cs ≡ true) × (length cs ≤ n)

one_more : (n : ℕ) (c : Option ℤ) (cs : List ℤ) → Takeable c → FitList n cs → FitList (suc n) (option_to_list c ++ cs)
one_more n None cs h k = let few = k.1 in (k.0, omega arith)
one_more n (Some c) cs h k = let few = k.1 in (all_appended (c ∷ []) cs (and_from (is_in_range c) true h refl) k.0, omega arith)

module _ (edges : List Arc) (a : PointRows) (fit : Each (λ e. IsFit e.what) edges) where
  followed_fits : (n p : ℕ) (r : Linear) → FitList n (followed edges a n p r)
  followed_fits zero p r = (refl, omega arith)
  followed_fits (suc n) p r = by (step_from edges a p r) refl (λ q z. followed_fits n q z)
    where
      later : (q : ℕ) (o : Option Linear) → ((q : ℕ) (z : Linear) → FitList n (followed edges a n q z)) → FitList n (after_row (followed edges a n q) o)
      later q None more = (refl, omega arith)
      later q (Some z) more = more q z

      by : (o : Option Step) → step_from edges a p r ≡ o → ((q : ℕ) (z : Linear) → FitList n (followed edges a n q z)) → FitList (suc n) (after_step (followed edges a n) o)
      by None is more = (refl, omega arith)
      by (Some step) is more =
          let taken = point_taken a r (leaving p edges) step is in
          let e = taken.0 in
          let fits = each_at (λ e. IsFit e.what) edges e fit (leaving_in p edges e taken.2).0 in
          one_more n step.choice (after_row (followed edges a n step.to) step.row) (outcome_fits taken.1 e r (a e.to) step.choice step.row fits taken.4.outcome) (later step.to step.row more)

pub choices_are_fit : ChoicesAreFit
choices_are_fit g s is fit = by (first_broken s (entry_rows g))
  where
    by : (o : Option Linear) → FitList CHOICES (after_row (followed g.edges (rows_at (needed g)) (length g.points) 0) o)
    by None = (refl, omega arith)
    by (Some r) =
        let h = followed_fits g.edges (rows_at (needed g)) fit (length g.points) 0 r in
        let few = h.1 in
        let points = is.points in
        let most = is.edges in
        (h.0, omega arith)
