-- With tame numbers no operation by which a candidate is found leaves the range or has a row too many.
use Rattle.std.proofs.Common.{◌≡◌, ℕ, suc, zero, ◌≤◌, List, [], ◌∷◌, ◌++◌, length, map, set, refl, subst, cond, Bool, true, false, arith}
use Rattle.std.specs.List.{AllByRecursion as Each}
use Rattle.pc_rows.specs.Linear.{Linear}
use Rattle.pc_rows.specs.Joins.{is_covered, with_row, joined}
use Rattle.pc_rows.specs.declared.rows.TheConstants.{ROWS}
use Rattle.pc_rows.proofs.Joining.{each_join, joined-longer, each_left, each_right}
use Rattle.pc_flow.specs.declared.point.PointInfo.{PointInfo}
use Rattle.pc_flow.specs.Annotation.{rows_at}
use Rattle.pc_flow.specs.Arc.{Arc}
use Rattle.pc_flow.specs.Carry.{owes, test_rows}
use Rattle.pc_flow.specs.Exact.{PointRows}
use Rattle.pc_flow.specs.Flow.{Flow}
use Rattle.pc_flow.specs.Incidence.{leaving}
use Rattle.pc_flow.specs.Shape.{LeadsUp}
use Rattle.pc_lower.specs.declared.mode.Mode.{Mode}
use Rattle.pc_lower.specs.declared.mode.Mode.TheVariants.{Hint, Plain, Tilt1, Tilt2, Escape}
use Rattle.pc_lower.specs.declared.rounds.TheConstants.{ROUNDS}
use Rattle.pc_lower.specs.Annotation.{is_head, no_rows}
use Rattle.pc_lower.specs.Candidate.{lifted, with_owed, with_edge_owed, turned, turn, turns_below, hint_at, hinted, heads_by}
use Rattle.pc_lower.specs.Course.{operations_after, lifted_operations, owed_operations, edge_owed_operations, edges_carries, turned_from_operations, turned_operations, turn_operations, turns_operations, rounds_operations, found_operations, hint_at_operations, hint_operations, heads_operations}
use Rattle.pc_lower.specs.Need.{need}
use Rattle.pc_lower.specs.Operations.{Fits, Joins, operations, after_all, operations_of_all, carries}
use Rattle.pc_lower.specs.Tame.{HasTameNumbers, AreTame}
use Rattle.pc_lower.specs.TameCourse.{collected, rows_after, lifted_lists, owed_lists, edge_owed_lists, tested_lists, turn_lists, turns_lists, rounds_lists, found_lists, IsTameFor, TameCandidateFits}
use Rattle.pc_lower.proofs.Agreeing.{each_both, each_leaving}
use Rattle.pc_lower.proofs.Meaning.{need_is}
use Rattle.pc_lower.proofs.TameLifts.{tame_target, after_fit, none_tame, IsSoft, owed_soft, lifted_fits}
use Rattle.pc_lower.proofs.Tameness.{no_tame, carries_fit, tame_operations_fit}
use Rattle.pc_lower.proofs.Variables.{each_rows_at, each_set}

module _ (g : Flow) (leads : Each (LeadsUp g.points g.variables) g.edges) (numbers : Each (λ e. HasTameNumbers e.what) g.edges) (m : Mode) where
  -- ---- rows that are owed: the head's rows grow, so no join has more rows than the turn at its end

  module _ (e : Arc) (begun : List Linear) where
    grows : (rows owed : List Linear) → length rows ≤ length (after_all (with_owed g m e begun) rows owed)
    grows rows [] = omega arith
    grows rows (r ∷ owed) =
        let one = by (is_covered r (begun ++ test_rows e.what)) in
        let more = grows (with_owed g m e begun rows r) owed in
        omega arith
      where
        by : (t : Bool) → length rows ≤ length (cond t rows (with_row rows (lifted g m e r)))
        by true = omega arith
        by false = joined-longer rows (lifted g m e r ∷ [])

    owed_fits : HasTameNumbers e.what → (rows owed : List Linear) → Each (IsSoft g leads numbers e.what) owed → Each AreTame (collected (with_owed g m e begun) (owed_lists g m e begun) rows owed) →
        length (after_all (with_owed g m e begun) rows owed) ≤ ROWS → Each Fits (operations_of_all (with_owed g m e begun) (owed_operations g m e begun) rows owed)
    owed_fits tame rows [] soft lists most = tt
    owed_fits tame rows (r ∷ owed) soft lists most =
        let next = with_owed g m e begun rows r in
        let here = each_left AreTame (owed_lists g m e begun rows r) (collected (with_owed g m e begun) (owed_lists g m e begun) next owed) lists in
        let there = each_right AreTame (owed_lists g m e begun rows r) (collected (with_owed g m e begun) (owed_lists g m e begun) next owed) lists in
        let grown = grows next owed in
        each_join Fits (owed_operations g m e begun rows r) _ (by (is_covered r (begun ++ test_rows e.what)) here (omega arith)) (owed_fits tame next owed soft.1 there most)
      where
        by : (t : Bool) → Each AreTame (cond t [] (lifted_lists g m e r)) → length (cond t rows (with_row rows (lifted g m e r))) ≤ ROWS →
            Each Fits (cond t [] (lifted_operations g m e r ++ Joins rows (lifted g m e r ∷ []) ∷ []))
        by true here most = tt
        by false here most = each_join Fits (lifted_operations g m e r) _ (lifted_fits g leads numbers m e r soft.0 tame here) (most, tt)

  -- ---- the edges of a head

  module _ (a : PointRows) (begun : List Linear) where
    edges_grow : (rows : List Linear) (edges : List Arc) → length rows ≤ length (after_all (with_edge_owed g m a begun) rows edges)
    edges_grow rows [] = omega arith
    edges_grow rows (e ∷ edges) =
        let one = grows e begun rows (owes e.what (a e.to)) in
        let more = edges_grow (with_edge_owed g m a begun rows e) edges in
        omega arith

    edges_owed_fit : (rows : List Linear) (edges : List Arc) → Each (λ e. HasTameNumbers e.what × AreTame (a e.to)) edges →
        Each AreTame (collected (with_edge_owed g m a begun) (edge_owed_lists g m a begun) rows edges) →
        length (after_all (with_edge_owed g m a begun) rows edges) ≤ ROWS → Each Fits (operations_of_all (with_edge_owed g m a begun) (edge_owed_operations g m a begun) rows edges)
    edges_owed_fit rows [] tame lists most = tt
    edges_owed_fit rows (e ∷ edges) tame lists most =
        let next = with_edge_owed g m a begun rows e in
        let owed = owes e.what (a e.to) in
        let grown = edges_grow next edges in
        let here = each_left AreTame (edge_owed_lists g m a begun rows e) (collected (with_edge_owed g m a begun) (edge_owed_lists g m a begun) next edges) lists in
        let there = each_right AreTame (edge_owed_lists g m a begun rows e) (collected (with_edge_owed g m a begun) (edge_owed_lists g m a begun) next edges) lists in
        each_join Fits (edge_owed_operations g m a begun rows e) _
        (owed_fits e begun tame.0.0 rows owed (owed_soft g leads numbers e.what (a e.to) tame.0.1.numbers) here (omega arith)) (edges_owed_fit next edges tame.1 there most)

    edges_carried_fit : (edges : List Arc) → Each (λ e. HasTameNumbers e.what × AreTame (a e.to)) edges → Each Fits (edges_carries a edges)
    edges_carried_fit [] tame = tt
    edges_carried_fit (e ∷ edges) tame =
        each_join Fits (carries e.what (a e.to)) (edges_carries a edges) (carries_fit e.what (a e.to) tame.0.0 tame.0.1.numbers) (edges_carried_fit edges tame.1)

  -- ---- turns and rounds: the heads stay tame, since each turn's rows are among those that are tame

  module _ (h : ℕ) (heads : List (List Linear)) (tame : Each AreTame heads) where
    targets_tame : Each AreTame (rows_after g heads h) → (edges : List Arc) → Each (λ e. (e.from ≡ h) × (LeadsUp g.points g.variables e × HasTameNumbers e.what)) edges →
        Each (λ e. HasTameNumbers e.what × AreTame (rows_at (need g heads) e.to)) edges
    targets_tame after [] all = tt
    targets_tame after (e ∷ edges) all =
        let from = all.0.0 in
        ((all.0.1.1, tame_target g leads heads h tame after e (omega arith) all.0.1.0), targets_tame after edges all.1)

    abbrev rows : PointRows
    rows = rows_at (need g heads)

    abbrev tests : List (List Linear)
    tests = tested_lists g m h rows

    turn_tame : Each AreTame (turn_lists g m h heads) → Each Fits (turn_operations g m h heads) × Each AreTame (turn g m h heads)
    turn_tame lists = by (is_head g.points h) lists
      where
        by : (t : Bool) → Each AreTame (cond t (rows_after g heads h ++ (tests ++ turned g m h heads ∷ [])) []) →
            Each Fits (cond t (turned_operations g m h heads) []) × Each AreTame (cond t (set heads h (turned g m h heads)) heads)
        by false lists = (tt, tame)
        by true lists =
            let after = each_left AreTame (rows_after g heads h) (tests ++ turned g m h heads ∷ []) lists in
            let later = each_right AreTame (rows_after g heads h) (tests ++ turned g m h heads ∷ []) lists in
            let last = (each_right AreTame tests (turned g m h heads ∷ []) later).0 in
            let all = targets_tame after (leaving h g.edges)
            (each_leaving (λ e. LeadsUp g.points g.variables e × HasTameNumbers e.what) h g.edges (each_both (LeadsUp g.points g.variables) (λ e. HasTameNumbers e.what) g.edges leads numbers)) in (
              each_join Fits (operations_after g heads h) (turned_from_operations g m h rows) (after_fit g leads heads h tame after numbers)
                  (each_join Fits (edges_carries rows (leaving h g.edges)) _ (edges_carried_fit rows (rows h) (leaving h g.edges) all)
                  (edges_owed_fit rows (rows h) (rows h) (leaving h g.edges) all (each_left AreTame tests (turned g m h heads ∷ []) later) last.most)),
              each_set AreTame heads h (turned g m h heads) last tame,
            )

  turns_tame : (n : ℕ) (heads : List (List Linear)) → Each AreTame heads → Each AreTame (turns_lists g m n heads) → Each Fits (turns_operations g m n heads) × Each AreTame (turns_below g m n heads)
  turns_tame zero heads tame lists = (tt, tame)
  turns_tame (suc n) heads tame lists =
      let one = turn_tame n heads tame (each_left AreTame (turn_lists g m n heads) (turns_lists g m n (turn g m n heads)) lists) in
      let more = turns_tame n (turn g m n heads) one.1 (each_right AreTame (turn_lists g m n heads) (turns_lists g m n (turn g m n heads)) lists) in
      (each_join Fits (turn_operations g m n heads) (turns_operations g m n (turn g m n heads)) one.0 more.0, more.1)

  rounds_tame : (n : ℕ) (heads : List (List Linear)) → Each AreTame heads → Each AreTame (rounds_lists n g m heads) → Each Fits (rounds_operations n g m heads)
  rounds_tame zero heads tame lists = tt
  rounds_tame (suc n) heads tame lists =
      let after = turns_below g m (length g.points) heads in
      let one = turns_tame (length g.points) heads tame (each_left AreTame (turns_lists g m (length g.points) heads) (rounds_lists n g m after) lists) in
      each_join Fits (turns_operations g m (length g.points) heads) (rounds_operations n g m after) one.0
      (rounds_tame n after one.1 (each_right AreTame (turns_lists g m (length g.points) heads) (rounds_lists n g m after) lists))

  found_fits : Each AreTame (found_lists g m) → Each Fits (found_operations g m)
  found_fits lists = rounds_tame ROUNDS (no_rows g.points) (none_tame g.points) lists

-- ---- the rows that loops try are among those of the candidate

hints_fit : (points : List PointInfo) → ((p : ℕ) → is_head points p ≡ true → AreTame (rows_at (map hint_at points) p)) → Each Fits (hint_operations points)
hints_fit [] tame = tt
hints_fit (point ∷ points) tame =
    each_join Fits (hint_at_operations point) (hint_operations points) (by point.head refl (tame zero)) (hints_fit points (λ p head. tame (suc p) head))
  where
    by : (t : Bool) → point.head ≡ t → (t ≡ true → AreTame (cond t (joined [] point.tried) [])) → Each Fits (cond t (Joins [] point.tried ∷ []) [])
    by true is tame = ((tame refl).most, tt)
    by false is tame = tt

hinted_fit : (g : Flow) → Each (LeadsUp g.points g.variables) g.edges → Each AreTame (need g (hinted g)) → Each Fits (hint_operations g.points)
hinted_fit g leads tame =
    hints_fit g.points (λ p head. subst AreTame ((need_is g leads (hinted g)).given p head) (each_rows_at AreTame (need g (hinted g)) p no_tame tame))

pub tame_candidate_fits : TameCandidateFits
tame_candidate_fits g m is tame =
    each_join Fits (heads_operations g m) (operations g (heads_by g m)) (by m tame) (tame_operations_fit g is.leads tame.edges (heads_by g m) tame.candidate)
  where
    by : (m : Mode) → IsTameFor g m → Each Fits (heads_operations g m)
    by Hint tame = hinted_fit g is.leads tame.candidate
    by Plain tame = found_fits g is.leads tame.edges Plain tame.rounds
    by Tilt1 tame = found_fits g is.leads tame.edges Tilt1 tame.rounds
    by Tilt2 tame = found_fits g is.leads tame.edges Tilt2 tame.rounds
    by Escape tame = found_fits g is.leads tame.edges Escape tame.rounds
