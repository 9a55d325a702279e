-- Turns of heads, with rows of the points that are up to date.
use Rattle.std.proofs.Common.{◌≡◌, ◌∙◌, ℕ, suc, zero, ◌<◌, ◌≤◌, List, [], ◌∷◌, ◌++◌, length, set, sym, refl, ap, subst, cond, Bool, true, arith, Err, length-set, inl, inr}
use Rattle.std.specs.Prelude.{◌⊎◌}
use Rattle.std.specs.List.{AllByRecursion as Each}
use Rattle.pc_rows.specs.Linear.{Linear}
use Rattle.pc_rows.specs.declared.rows.TheConstants.{ROWS}
use Rattle.pc_rows.proofs.Joining.{each_join}
use Rattle.pc_flow.specs.declared.point.PointInfo.{PointInfo}
use Rattle.pc_flow.specs.Arc.{Arc}
use Rattle.pc_flow.specs.Carry.{owes}
use Rattle.pc_flow.specs.Exact.{PointRows}
use Rattle.pc_flow.specs.Flow.{Flow}
use Rattle.pc_flow.specs.Shape.{LeadsUp, IsHead}
use Rattle.pc_lower.specs.declared.fault.CandidateFault.{CandidateFault}
use Rattle.pc_lower.specs.declared.fault.CandidateFault.TheVariants.{Past, Full, NoMemory}
use Rattle.pc_lower.specs.declared.mode.Mode.{Mode}
use Rattle.pc_flow.specs.Annotation.{rows_at}
use Rattle.pc_lower.specs.Annotation.{is_head, AreFew}
use Rattle.pc_lower.specs.Candidate.{with_owed, with_edge_owed, turned_from, turned}
use Rattle.pc_lower.specs.Course.{owed_operations, edge_owed_operations, edges_carries, turned_from_operations, turned_operations, operations_between, operations_after}
use Rattle.pc_lower.specs.Fresh.{IsFresh, RefreshIs, NoneReaches, Stands, TurnIs}
use Rattle.pc_flow.specs.Incidence.{leaving}
use Rattle.pc_lower.specs.Need.{at_heads, filled_below, need}
use Rattle.pc_lower.specs.Operations.{Operation, Fits, Answers, after_all, operations_of_all, carries}
use Rattle.pc_lower.proofs.Agreeing.{is_the_head, each_leaving}
use Rattle.pc_lower.proofs.Answering.{fault_after, fault_within}
use Rattle.pc_lower.proofs.Freshness.{agree_need, fresh_fits}
use Rattle.pc_lower.proofs.Ends.{fresh_apart}
use Rattle.pc_lower.proofs.Variables.{each_set}

-- a turn depends on the rows of the head and of the targets of its edges

abbrev Alike : PointRows → PointRows → List Arc → Type 0
Alike a b edges = Each (λ e. a e.to ≡ b e.to) edges

module _ (g : Flow) (m : Mode) (a b : PointRows) (begun : List Linear) where
  edges_owed_alike : (rows : List Linear) (edges : List Arc) → Alike a b edges → after_all (with_edge_owed g m a begun) rows edges ≡ after_all (with_edge_owed g m b begun) rows edges
  edges_owed_alike rows [] k = refl
  edges_owed_alike rows (e ∷ edges) k =
      ap (λ (z : List Linear). after_all (with_edge_owed g m a begun) (after_all (with_owed g m e begun) rows (owes e.what z)) edges) k.0
      ∙ edges_owed_alike (with_edge_owed g m b begun rows e) edges k.1

  edges_operations_alike : (rows : List Linear) (edges : List Arc) → Alike a b edges →
      operations_of_all (with_edge_owed g m a begun) (edge_owed_operations g m a begun) rows edges ≡ operations_of_all (with_edge_owed g m b begun) (edge_owed_operations g m b begun) rows edges
  edges_operations_alike rows [] k = refl
  edges_operations_alike rows (e ∷ edges) k =
      ap (λ (z : List Linear). operations_of_all (with_owed g m e begun) (owed_operations g m e begun) rows (owes e.what z) ++
      operations_of_all (with_edge_owed g m a begun) (edge_owed_operations g m a begun) (after_all (with_owed g m e begun) rows (owes e.what z)) edges) k.0
      ∙ ap (λ (z : List Operation). edge_owed_operations g m b begun rows e ++ z) (edges_operations_alike (with_edge_owed g m b begun rows e) edges k.1)

carries_alike : (a b : PointRows) (edges : List Arc) → Alike a b edges → edges_carries a edges ≡ edges_carries b edges
carries_alike a b [] k = refl
carries_alike a b (e ∷ edges) k =
    ap (λ (z : List Linear). carries e.what z ++ edges_carries a edges) k.0 ∙ ap (λ (z : List Operation). carries e.what (b e.to) ++ z) (carries_alike a b edges k.1)

module _ (g : Flow) (m : Mode) (h : ℕ) (a b : PointRows) (here : a h ≡ b h) (alike : Alike a b (leaving h g.edges)) where
  turned_alike : turned_from g m h a ≡ turned_from g m h b
  turned_alike =
      ap (λ (z : List Linear). after_all (with_edge_owed g m a z) z (leaving h g.edges)) here ∙ edges_owed_alike g m a b (b h) (b h) (leaving h g.edges) alike

  turned_operations_alike : turned_from_operations g m h a ≡ turned_from_operations g m h b
  turned_operations_alike =
      ap (λ (z : List Linear). edges_carries a (leaving h g.edges) ++ operations_of_all (with_edge_owed g m a z) (edge_owed_operations g m a z) z (leaving h g.edges)) here
      ∙ ap (λ (z : List Operation). z ++ operations_of_all (with_edge_owed g m a (b h)) (edge_owed_operations g m a (b h)) (b h) (leaving h g.edges)) (carries_alike a b (leaving h g.edges) alike)
      ∙ ap (λ (z : List Operation). edges_carries b (leaving h g.edges) ++ z) (edges_operations_alike g m a b (b h) (b h) (leaving h g.edges) alike)

-- a head gets rows
pub heads_set : (points : List PointInfo) (a : List (List Linear)) (p : ℕ) (rows : List Linear) → length a ≡ length points → is_head points p ≡ true →
    at_heads points (set a p rows) ≡ set (at_heads points a) p rows
heads_set [] a p rows long head = absurd (cc)
heads_set (point ∷ points) [] p rows long head = absurd (omega arith)
heads_set (point ∷ points) (r ∷ a) zero rows long head = ap (λ (t : Bool). cond t rows [] ∷ at_heads points a) head
heads_set (point ∷ points) (r ∷ a) (suc p) rows long head = ap (λ (z : List (List Linear)). cond point.head r [] ∷ z) (heads_set points a p rows (omega arith) head)

-- where the points after the head are up to date, a turn with their rows is the turn of the need

module _ (g : Flow) (leads : Each (LeadsUp g.points g.variables) g.edges) (m : Mode) (h : ℕ) (head : is_head g.points h ≡ true) (old mid : List (List Linear))
    (long : length mid ≡ length g.points) (heads : at_heads g.points mid ≡ at_heads g.points old) (fresh : IsFresh g (suc h) mid) where
  same_need : need g mid ≡ need g old
  same_need = ap (filled_below g (length g.points)) heads

  targets_alike : Alike (rows_at mid) (rows_at (need g mid)) (leaving h g.edges)
  targets_alike = by (leaving h g.edges) (each_leaving (LeadsUp g.points g.variables) h g.edges leads)
    where
      one : (e : Arc) → e.from ≡ h → LeadsUp g.points g.variables e → (e.from < e.to) ⊎ IsHead g.points e.to → rows_at mid e.to ≡ rows_at (need g mid) e.to
      one e from up (inl rises) = (agree_need g leads mid long h fresh).above e.to (omega arith)
      one e from up (inr to) = (agree_need g leads mid long h fresh).heads e.to (is_the_head g.points e.to up.reaches to)

      by : (edges : List Arc) → Each (λ e. (e.from ≡ h) × LeadsUp g.points g.variables e) edges → Alike (rows_at mid) (rows_at (need g mid)) edges
      by [] k = tt
      by (e ∷ edges) k = (one e k.0.0 k.0.1 k.0.1.rises, by edges k.1)

  here_alike : rows_at mid h ≡ rows_at (need g mid) h
  here_alike = (agree_need g leads mid long h fresh).heads h head

  turned_is : turned_from g m h (rows_at mid) ≡ turned g m h old
  turned_is =
      turned_alike g m h (rows_at mid) (rows_at (need g mid)) here_alike targets_alike ∙ ap (λ (z : List (List Linear)). turned_from g m h (rows_at z)) same_need

  turned_operations_are : turned_from_operations g m h (rows_at mid) ≡ turned_from_operations g m h (rows_at (need g old))
  turned_operations_are =
      turned_operations_alike g m h (rows_at mid) (rows_at (need g mid)) here_alike targets_alike ∙ ap (λ (z : List (List Linear)). turned_from_operations g m h (rows_at z)) same_need

  after_fit : Each Fits (operations_after g old h)
  after_fit =
      subst (λ (z : List (List Linear)). Each Fits (operations_between g (rows_at z) (suc h) (length g.points))) same_need (fresh_fits g leads mid long (suc h) fresh (length g.points))

  pub turn_refused : (part : List Linear) (f : CandidateFault) (new : List (List Linear)) → Answers (turned_from_operations g m h (rows_at mid)) part (Err f) → TurnIs g m h old (Err f) new
  turn_refused part f new answer = by f (subst (λ (z : List Operation). Answers z part (Err f)) turned_operations_are answer)
    where
      by : (f : CandidateFault) → Answers (turned_from_operations g m h (rows_at (need g old))) part (Err f) → TurnIs g m h old (Err f) new
      by Past k = fault_after Past (operations_after g old h) (turned_from_operations g m h (rows_at (need g old))) after_fit k
      by Full k = fault_after Full (operations_after g old h) (turned_from_operations g m h (rows_at (need g old))) after_fit k
      by NoMemory k = tt

  pub turn_fits : Each Fits (turned_from_operations g m h (rows_at mid)) → Each Fits (turned_operations g m h old)
  turn_fits fit =
      each_join Fits (operations_after g old h) (turned_from_operations g m h (rows_at (need g old))) after_fit (subst (Each Fits) turned_operations_are fit)

  pub turn_stands : (rows : List Linear) (new : List (List Linear)) (end : ℕ) → AreFew mid → length old ≡ length g.points → h < length g.points → rows ≡ turned_from g m h (rows_at mid) → length rows ≤ ROWS →
      new ≡ set mid h rows → h < end → end ≤ length g.points → NoneReaches h end g.edges → Stands g (set old h (turned g m h old)) end new
  turn_stands rows new end few old_long lt is most is_set after within none =
      subst (Stands g (set old h (turned g m h old)) end) (sym is_set) (record {
        long = length-set mid h rows ∙ long;
        few = each_set (λ rows. length rows ≤ ROWS) mid h rows most few;
        heads =
            heads_set g.points mid h rows long head
            ∙ ap (λ (z : List (List Linear)). set z h rows) heads
            ∙ ap (λ (z : List Linear). set (at_heads g.points old) h z) (is ∙ turned_is)
            ∙ sym (heads_set g.points old h (turned g m h old) old_long head);
        within = within;
        fresh = fresh_apart g mid h end rows none after (record { rows = λ p le. fresh.rows p (omega arith); fit = λ p le. fresh.fit p (omega arith) });
      })

pub refresh_refused : (g : Flow) (m : Mode) (h low : ℕ) (old new after : List (List Linear)) (f : CandidateFault) → low ≡ suc h → RefreshIs g low old (Err f) new → TurnIs g m h old (Err f) after
refresh_refused g m h low old new after f next refused = by f (subst (λ (n : ℕ). RefreshIs g n old (Err f) new) next refused)
  where
    by : (f : CandidateFault) → RefreshIs g (suc h) old (Err f) new → TurnIs g m h old (Err f) after
    by Past k = fault_within Past (operations_after g old h) (turned_from_operations g m h (rows_at (need g old))) k
    by Full k = fault_within Full (operations_after g old h) (turned_from_operations g m h (rows_at (need g old))) k
    by NoMemory k = tt
