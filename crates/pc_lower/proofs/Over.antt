-- The rows that are found for heads have the variables of the graph alone.
use Rattle.std.proofs.Common.{◌≡◌, ℕ, suc, zero, List, [], ◌∷◌, ◌++◌, length, map, drop, set, sym, subst, cond, Bool, true, false, Result, Ok, Err}
use Rattle.std.specs.Prelude.{IfOk}
use Rattle.std.specs.List.{AllByRecursion as Each}
use Rattle.pc_rows.specs.Linear.{Linear, IsOver, difference_of}
use Rattle.pc_rows.specs.Joins.{is_covered, with_row, joined}
use Rattle.pc_rows.proofs.Joining.{each_join, joined_each}
use Rattle.pc_flow.specs.declared.point.PointInfo.{PointInfo}
use Rattle.pc_flow.specs.declared.what.What.{What}
use Rattle.pc_flow.specs.declared.what.What.TheVariants.{Enter, Test, Set, Check}
use Rattle.pc_flow.specs.Arc.{Arc}
use Rattle.pc_flow.specs.Carry.{owes, test_rows}
use Rattle.pc_flow.specs.Flow.{Flow}
use Rattle.pc_flow.specs.Incidence.{leaving}
use Rattle.pc_flow.specs.Shape.{WhatIsOver, LeadsUp, IsGraph}
use Rattle.pc_lower.specs.declared.mode.Mode.{Mode}
use Rattle.pc_lower.specs.declared.rounds.TheConstants.{ROUNDS}
use Rattle.pc_lower.specs.declared.mode.Mode.TheVariants.{Hint, Plain, Tilt1, Tilt2, Escape}
use Rattle.pc_flow.specs.Annotation.{rows_at}
use Rattle.pc_lower.specs.Annotation.{AreOver, is_head, no_rows}
use Rattle.pc_lower.specs.Candidate.{hint_at, is_steady, tilted, escaped, lift, lifted, with_owed, with_edge_owed, turned, turn, turns_below, rounds, heads_by, candidate}
use Rattle.pc_lower.specs.Need.{need, at_heads}
use Rattle.pc_lower.specs.Operations.{after_all, Answers}
use Rattle.pc_lower.proofs.Annotations.{none_over}
use Rattle.pc_lower.proofs.Agreeing.{each_leaving}
use Rattle.pc_lower.proofs.Variables.{each_rows_at, each_set, below_over, heads_over, back_over, need_is_complete}
use Rattle.pc_rows.proofs.Only.{difference_is_over, negation_is_over}
use Rattle.pc_lower.specs.Course.{candidate_operations}
use Rattle.pc_lower.specs.Laws.{IsComplete}
use Rattle.pc_lower.specs.declared.fault.CandidateFault.{CandidateFault}

owed_over : (n : ℕ) (w : What) (rows : List Linear) → WhatIsOver n w → Each (IsOver n) rows → Each (IsOver n) (owes w rows)
owed_over n (Enter params) rows over h = back_over n (Enter params) rows over h
owed_over n (Test own) rows over h = back_over n (Test own) rows over h
owed_over n (Set x form lo hi) rows over h = back_over n (Set x form lo hi) rows over h
owed_over n (Check own) rows over h = each_join (IsOver n) own rows over h

test_over : (n : ℕ) (w : What) → WhatIsOver n w → Each (IsOver n) (test_rows w)
test_over n (Enter params) over = tt
test_over n (Test own) over = over
test_over n (Set x form lo hi) over = tt
test_over n (Check own) over = tt

drop_over : (n k : ℕ) (rows : List Linear) → Each (IsOver n) rows → Each (IsOver n) (drop k rows)
drop_over n zero rows h = h
drop_over n (suc k) [] h = tt
drop_over n (suc k) (r ∷ rows) h = drop_over n k rows h.1

module _ (g : Flow) (leads : Each (LeadsUp g.points g.variables) g.edges) (m : Mode) (h : ℕ) where
  tilted_over : (e : Arc) (r : Linear) (own : List Linear) → IsOver g.variables r → Each (IsOver g.variables) own → IsOver g.variables (tilted g e r own)
  tilted_over e r [] k own = k
  tilted_over e r (t ∷ more) k own = by (is_steady g e r)
    where
      by : (s : Bool) → IsOver g.variables (cond s r (difference_of r t))
      by true = k
      by false = difference_is_over g.variables r t k own.0

  escaped_over : (r : Linear) (own : List Linear) → IsOver g.variables r → Each (IsOver g.variables) own → IsOver g.variables (escaped r own)
  escaped_over r [] k own = k
  escaped_over r (t ∷ more) k own = negation_is_over g.variables t own.0

  lift_over : (m : Mode) (e : Arc) (r : Linear) → WhatIsOver g.variables e.what → IsOver g.variables r → IsOver g.variables (lift g m e r)
  lift_over Hint e r over k = k
  lift_over Plain e r over k = k
  lift_over Tilt1 e r over k = tilted_over e r (test_rows e.what) k (test_over g.variables e.what over)
  lift_over Tilt2 e r over k = tilted_over e r (drop 1 (test_rows e.what)) k (drop_over g.variables 1 (test_rows e.what) (test_over g.variables e.what over))
  lift_over Escape e r over k = escaped_over r (test_rows e.what) k (test_over g.variables e.what over)

  lifted_over : (e : Arc) (r : Linear) → WhatIsOver g.variables e.what → IsOver g.variables r → IsOver g.variables (lifted g m e r)
  lifted_over e r over k = by e.body
    where
      by : (s : Bool) → IsOver g.variables (cond s (lift g m e r) r)
      by true = lift_over m e r over k
      by false = k

  all_over : (e : Arc) (begun rows owed : List Linear) → WhatIsOver g.variables e.what → Each (IsOver g.variables) rows → Each (IsOver g.variables) owed →
      Each (IsOver g.variables) (after_all (with_owed g m e begun) rows owed)
  all_over e begun rows [] over k owed = k
  all_over e begun rows (r ∷ more) over k owed = all_over e begun (with_owed g m e begun rows r) more over (by (is_covered r (begun ++ test_rows e.what))) owed.1
    where
      by : (s : Bool) → Each (IsOver g.variables) (cond s rows (with_row rows (lifted g m e r)))
      by true = k
      by false = joined_each (IsOver g.variables) rows (lifted g m e r ∷ []) k (lifted_over e r over owed.0, tt)

  edges_over : (a : List (List Linear)) (begun rows : List Linear) (edges : List Arc) → AreOver g.variables a → Each (IsOver g.variables) rows →
      Each (λ e. (e.from ≡ h) × LeadsUp g.points g.variables e) edges → Each (IsOver g.variables) (after_all (with_edge_owed g m (rows_at a) begun) rows edges)
  edges_over a begun rows [] over k all = k
  edges_over a begun rows (e ∷ edges) over k all =
      let owed = owed_over g.variables e.what (rows_at a e.to) all.0.1.over (each_rows_at (Each (IsOver g.variables)) a e.to tt over) in
      edges_over a begun (with_edge_owed g m (rows_at a) begun rows e) edges over (all_over e begun rows (owes e.what (rows_at a e.to)) all.0.1.over k owed) all.1

  turned_over : (heads : List (List Linear)) → AreOver g.variables heads → Each (IsOver g.variables) (turned g m h heads)
  turned_over heads over =
      let need_over = below_over g leads (length g.points) (at_heads g.points heads) (heads_over g.variables g.points heads over) in
      let here = each_rows_at (Each (IsOver g.variables)) (need g heads) h tt need_over in
      edges_over (need g heads) (rows_at (need g heads) h) (rows_at (need g heads) h) (leaving h g.edges) need_over here (each_leaving (LeadsUp g.points g.variables) h g.edges leads)

  turn_over : (heads : List (List Linear)) → AreOver g.variables heads → AreOver g.variables (turn g m h heads)
  turn_over heads over = by (is_head g.points h)
    where
      by : (s : Bool) → AreOver g.variables (cond s (set heads h (turned g m h heads)) heads)
      by true = each_set (Each (IsOver g.variables)) heads h (turned g m h heads) (turned_over heads over) over
      by false = over

module _ (g : Flow) (leads : Each (LeadsUp g.points g.variables) g.edges) (m : Mode) where
  turns_over : (n : ℕ) (heads : List (List Linear)) → AreOver g.variables heads → AreOver g.variables (turns_below g m n heads)
  turns_over zero heads over = over
  turns_over (suc n) heads over = turns_over n (turn g m n heads) (turn_over g leads m n heads over)

  rounds_over : (n : ℕ) (heads : List (List Linear)) → AreOver g.variables heads → AreOver g.variables (rounds n g m heads)
  rounds_over zero heads over = over
  rounds_over (suc n) heads over = rounds_over n (turns_below g m (length g.points) heads) (turns_over (length g.points) heads over)

hints_over : (n : ℕ) (points : List PointInfo) → Each (λ point. Each (IsOver n) point.tried) points → AreOver n (map hint_at points)
hints_over n [] h = tt
hints_over n (point ∷ points) h = (by point.head, hints_over n points h.1)
  where
    by : (t : Bool) → Each (IsOver n) (cond t (joined [] point.tried) [])
    by true = joined_each (IsOver n) [] point.tried tt h.0
    by false = tt

heads_by_over : (g : Flow) → IsGraph g → (m : Mode) → AreOver g.variables (heads_by g m)
heads_by_over g is Hint = hints_over g.variables g.points is.tried
heads_by_over g is Plain = rounds_over g is.leads Plain ROUNDS (no_rows g.points) (none_over g.variables g.points)
heads_by_over g is Tilt1 = rounds_over g is.leads Tilt1 ROUNDS (no_rows g.points) (none_over g.variables g.points)
heads_by_over g is Tilt2 = rounds_over g is.leads Tilt2 ROUNDS (no_rows g.points) (none_over g.variables g.points)
heads_by_over g is Escape = rounds_over g is.leads Escape ROUNDS (no_rows g.points) (none_over g.variables g.points)

pub candidate_told : (g : Flow) (m : Mode) (answer : Result (List (List Linear)) CandidateFault) → IsGraph g → Answers (candidate_operations g m) (candidate g m) answer → IfOk answer (IsComplete g)
candidate_told g m (Ok a) is h = subst (IsComplete g) (sym h.1) (need_is_complete g (heads_by g m) is (heads_by_over g is m))
candidate_told g m (Err f) is h = tt
