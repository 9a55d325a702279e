-- What the answers promise of walks and of runs.
use Rattle.std.proofs.Common.{◌≡◌, ◌∙◌, ℕ, ◌+◌, ◌-◌, ℤ, pos, ◌≤ℤ◌, List, [], ◌∷◌, length, replicate, refl, sym, ap, subst, arith, inl, inr, Option, Some, None, length-append}
use Rattle.std.proofs.Math.ListN.{length-replicate}
use Rattle.pc_text.specs.declared.place.Place.{Place}
use Rattle.pc_rows.specs.Linear.{Linear, State, value, MeetsAll}
use Rattle.pc_rows.proofs.First.{value_of_first, value_at_entry, zero_from_all}
use Rattle.pc_program.specs.Machine.{Violated, run_of}
use Rattle.pc_flow.specs.Flow.{Flow}
use Rattle.pc_flow.specs.Walk.{entered}
use Rattle.pc_flow.proofs.Closed.{paid_is_safe}
use Rattle.pc_flow.specs.Annotation.{rows_at}
use Rattle.pc_lower.specs.Annotation.{no_rows}
use Rattle.pc_lower.proofs.Paying.{need_is_paid}
use Rattle.pc_flow.specs.Exact.{NoRows, StraightEdge}
use Rattle.pc_flow.proofs.Lists.{each_more}
use Rattle.pc_graph.specs.Lowering.{graph}
use Rattle.pc_graph.proofs.Bridge.{steps_correspond}
use Rattle.pc_graph.proofs.Driving.{choices_drive}
use Rattle.pc_graph.proofs.LoopFree.{loop_free_graphs}
use Rattle.pc_graph.proofs.StraightLoops.{straight_is_loop_free}
use Rattle.pc_graph.proofs.Straights.{straight_graphs}
use Rattle.pc_graph.proofs.Graphs.{graph_kept}
use Rattle.pc_breach.specs.Entry.{first_broken}
use Rattle.pc_breach.specs.Following.{after_row, followed}
use Rattle.pc_breach.specs.Answers.{needed, entry_rows, choices}
use Rattle.pc_breach.specs.Graphs.{IsStraight}
use Rattle.pc_breach.specs.Laws.{ChoicesBreak, AnswersAreMeant, RunsAreMeant}
use Rattle.pc_breach.proofs.First.{IsFirst, first_is}
use Rattle.pc_breach.proofs.Going.{from_point}
use Rattle.pc_breach.proofs.Settling.{none_broken}

-- an entry state with the locals at 0 gives a row the same value
entered_value : (g : Flow) (s : State) (r : Linear) → value r (entered g s) ≡ value r s
entered_value g s r =
    let m = g.variables - g.params in
    sym (value_at_entry (length s) m r s refl) ∙ value_of_first (length s) r s ∙ ap (λ (t : State). value r t) (zero_from_all (length s) s (omega arith))

entered_meets : (g : Flow) (s : State) (rows : List Linear) → MeetsAll s rows → MeetsAll (entered g s) rows
entered_meets g s [] h = tt
entered_meets g s (r ∷ rows) h = (subst (λ (z : ℤ). pos 0 ≤ℤ z) (sym (entered_value g s r)) h.0, entered_meets g s rows h.1)

entered_first : (g : Flow) (s : State) (rows : List Linear) (r : Linear) → IsFirst s rows r → IsFirst (entered g s) rows r
entered_first g s [] r h = h
entered_first g s (x ∷ rows) r (inl h) = inl (subst (λ (z : ℤ). pos 0 ≤ℤ z) (sym (entered_value g s x)) h.0, entered_first g s rows r h.1)
entered_first g s (x ∷ rows) r (inr h) = inr (h.0, (λ m. h.1 (subst (λ (z : ℤ). pos 0 ≤ℤ z) (entered_value g s r) m)))

pub answers_are_meant : AnswersAreMeant
answers_are_meant g s is straight all entry =
    let parameters = is.parameters in
    let long : length (entered g s) ≡ g.variables = length-append s (replicate (g.variables - g.params) (pos 0)) ∙ ap (λ (n : ℕ). length s + n) (length-replicate (g.variables - g.params) (pos 0)) ∙ omega arith in
    record {
      safe = λ met. paid_is_safe g (rows_at (needed g)) s (need_is_paid g (no_rows g.points) is straight.heads) long (entered_meets g s (entry_rows g) met);
      breaks = λ bad. by long (first_broken s (entry_rows g)) refl bad;
    }
  where
    by : length (entered g s) ≡ g.variables → (o : Option Linear) → first_broken s (entry_rows g) ≡ o → (MeetsAll s (entry_rows g) → ⊥) →
        ChoicesBreak g s (after_row (followed g.edges (rows_at (needed g)) (length g.points) 0) o)
    by long None none bad = absurd (bad (none_broken s (entry_rows g) (sym none)))
    by long (Some r) found bad =
        from_point g s is straight all (length g.points) 0 r (entered g s) [] [] (omega arith) (refl, refl, refl) long (entered_first g s (entry_rows g) r (first_is s (entry_rows g) r found))

-- ---- runs

pub runs_are_meant : RunsAreMeant
runs_are_meant p s str closed entry =
    let g = graph p in
    let all = straight_graphs p str in
    let straight : IsStraight g = record {
      heads = loop_free_graphs p (straight_is_loop_free p str);
      tests = each_more (StraightEdge (length g.points) g.variables) (λ e. NoRows e.what) (λ e k. k.free) g.edges all;
      ends = closed;
    } in
    let answers = answers_are_meant g s (graph_kept p) straight all entry in
    record {
      safe = λ met. (steps_correspond p s entry).safe.1 (answers.safe met);
      violated = λ bad. by (answers.breaks bad);
    }
  where
    by : ChoicesBreak (graph p) s (choices (graph p) s) → (q : Place) × (run_of p s (choices (graph p) s) ≡ Violated q)
    by b =
        let before = b.3 in
        let e = b.6.0 in
        let v = (choices_drive p s str entry).breaks b.0 b.1 b.2 before b.4 e b.6.1 b.6.2 b.6.3 in
        (v.0, ap (λ (cs : List ℤ). run_of p s cs) b.5 ∙ v.1)
