-- The candidate is the one annotation that is meant: each step in words has one result, which the functions compute.
use Rattle.std.proofs.Common.{◌≡◌, ◌∙◌, ℕ, zero, suc, ◌<◌, List, [], ◌∷◌, ◌++◌, length, drop, set, sym, refl, ap, subst, cond, Bool, true, false, arith, inl, inr, length-set, ◌==◌}
use Rattle.std.specs.Prelude.{◌⊎◌}
use Rattle.std.specs.List.{AllByRecursion as Each, list_all}
use Rattle.std.proofs.lemmas.Bool.Decides.{eqb_tells}
use Rattle.std.proofs.lemmas.List.{get_or-set_same, get_or-set_other, ext_get_or}
use Rattle.std.proofs.lemmas.Bool.{and_from, and_parts}
use Rattle.pc_rows.specs.Linear.{Linear, difference_of}
use Rattle.pc_rows.specs.Joins.{IsCovered, is_covered, with_row}
use Rattle.pc_rows.proofs.Joining.{covered_is, is_covered_test}
use Rattle.pc_flow.specs.declared.point.PointInfo.{PointInfo}
use Rattle.pc_flow.specs.Annotation.{rows_at}
use Rattle.pc_flow.specs.Arc.{Arc}
use Rattle.pc_flow.specs.Carry.{owes, test_rows}
use Rattle.pc_flow.specs.Exact.{PointRows}
use Rattle.pc_flow.specs.Flow.{Flow}
use Rattle.pc_flow.specs.Incidence.{leaving}
use Rattle.pc_flow.specs.Shape.{LeadsUp}
use Rattle.pc_lower.specs.declared.mode.Mode.{Mode}
use Rattle.pc_lower.specs.declared.mode.Mode.TheVariants.{Hint, Plain, Tilt1, Tilt2, Escape}
use Rattle.pc_lower.specs.declared.rounds.TheConstants.{ROUNDS}
use Rattle.pc_lower.specs.Annotation.{is_head, no_rows}
use Rattle.pc_lower.specs.Candidate.{alone, is_steady, tilted, escaped, lift, lifted, with_owed, with_edge_owed, turned, turn, turns_below, rounds, heads_by, candidate}
use Rattle.pc_lower.specs.Need.{need, IsNeed}
use Rattle.pc_lower.specs.Operations.{after_all}
use Rattle.pc_lower.specs.Turns.{IsSteady, IsTilted, IsEscaped, IsLift, IsLifted, Takes, TakesAll, TakesEdges, IsTurn, HaveTurns, AreRounds, AreHeads, IsCandidate, CandidateIsMeant}
use Rattle.pc_lower.specs.Unchecked.{unchecked}
use Rattle.pc_lower.proofs.Annotations.{none_long}
use Rattle.pc_lower.proofs.Meaning.{need_is, same_need}
use Rattle.pc_lower.proofs.Rounding.{turn_long, turns_long}
use Rattle.pc_lower.proofs.Seeing.{seen_leads}

-- ---- the steady test

all_told : (own rows : List Linear) → list_all (λ x. is_covered x own) rows ≡ true → Each (λ x. IsCovered x own) rows
all_told own [] h = tt
all_told own (x ∷ rows) h =
    let both = and_parts (is_covered x own) (list_all (λ x. is_covered x own) rows) h in
    (covered_is x own both.0, all_told own rows both.1)

all_test : (own rows : List Linear) → Each (λ x. IsCovered x own) rows → list_all (λ x. is_covered x own) rows ≡ true
all_test own [] h = refl
all_test own (x ∷ rows) h = and_from (is_covered x own) (list_all (λ x. is_covered x own) rows) (is_covered_test x own h.0) (all_test own rows h.1)

the_need : (g : Flow) → Each (LeadsUp g.points g.variables) g.edges → (heads a : List (List Linear)) → IsNeed g heads a → a ≡ need g heads
the_need g leads heads a is = same_need g leads heads a (need g heads) is (need_is g leads heads)

module _ (g : Flow) (leads : Each (LeadsUp g.points g.variables) g.edges) where
  steady_told : (e : Arc) (r : Linear) → is_steady g e r ≡ true → IsSteady g e r
  steady_told e r h a is =
      let same = the_need (unchecked g) (seen_leads false g leads) (alone g e.from r) a is in
      subst (λ (z : List (List Linear)). Each (λ x. IsCovered x (r ∷ test_rows e.what)) (rows_at z e.to)) (sym same)
      (all_told (r ∷ test_rows e.what) (rows_at (need (unchecked g) (alone g e.from r)) e.to) h)

  steady_test : (e : Arc) (r : Linear) → IsSteady g e r → is_steady g e r ≡ true
  steady_test e r h =
      all_test (r ∷ test_rows e.what) (rows_at (need (unchecked g) (alone g e.from r)) e.to)
      (h (need (unchecked g) (alone g e.from r)) (need_is (unchecked g) (seen_leads false g leads) (alone g e.from r)))

  -- ---- the lift

  tilted_is : (e : Arc) (r : Linear) (own : List Linear) → IsTilted g e r own (tilted g e r own)
  tilted_is e r [] = refl
  tilted_is e r (t ∷ more) = by (is_steady g e r) refl
    where
      by : (s : Bool) → is_steady g e r ≡ s → (IsSteady g e r × (cond s r (difference_of r t) ≡ r)) ⊎ ((IsSteady g e r → ⊥) × (cond s r (difference_of r t) ≡ difference_of r t))
      by true h = inl (steady_told e r h, refl)
      by false h = inr ((λ steady. (let test = steady_test e r steady in absurd (cc))), refl)

  tilted_only : (e : Arc) (r : Linear) (own : List Linear) (new : Linear) → IsTilted g e r own new → new ≡ tilted g e r own
  tilted_only e r [] new is = is
  tilted_only e r (t ∷ more) new (inl h) = h.1 ∙ ap (λ (s : Bool). cond s r (difference_of r t)) (sym (steady_test e r h.0))
  tilted_only e r (t ∷ more) new (inr h) = by (is_steady g e r) refl
    where
      by : (s : Bool) → is_steady g e r ≡ s → new ≡ cond s r (difference_of r t)
      by true k = absurd (h.0 (steady_told e r k))
      by false k = h.1

  escaped_is : (r : Linear) (own : List Linear) → IsEscaped r own (escaped r own)
  escaped_is r [] = refl
  escaped_is r (t ∷ more) = refl

  escaped_only : (r : Linear) (own : List Linear) (new : Linear) → IsEscaped r own new → new ≡ escaped r own
  escaped_only r [] new is = is
  escaped_only r (t ∷ more) new is = is

  lift_is : (m : Mode) (e : Arc) (r : Linear) → IsLift g m e r (lift g m e r)
  lift_is Hint e r = refl
  lift_is Plain e r = refl
  lift_is Tilt1 e r = tilted_is e r (test_rows e.what)
  lift_is Tilt2 e r = tilted_is e r (drop 1 (test_rows e.what))
  lift_is Escape e r = escaped_is r (test_rows e.what)

  lift_only : (m : Mode) (e : Arc) (r new : Linear) → IsLift g m e r new → new ≡ lift g m e r
  lift_only Hint e r new is = is
  lift_only Plain e r new is = is
  lift_only Tilt1 e r new is = tilted_only e r (test_rows e.what) new is
  lift_only Tilt2 e r new is = tilted_only e r (drop 1 (test_rows e.what)) new is
  lift_only Escape e r new is = escaped_only r (test_rows e.what) new is

  lifted_is : (m : Mode) (e : Arc) (r : Linear) → IsLifted g m e r (lifted g m e r)
  lifted_is m e r = by e.body
    where
      by : (b : Bool) → ((b ≡ true) × IsLift g m e r (cond b (lift g m e r) r)) ⊎ ((b ≡ false) × (cond b (lift g m e r) r ≡ r))
      by true = inl (refl, lift_is m e r)
      by false = inr (refl, refl)

  lifted_only : (m : Mode) (e : Arc) (r new : Linear) → IsLifted g m e r new → new ≡ lifted g m e r
  lifted_only m e r new (inl h) = lift_only m e r new h.1 ∙ ap (λ (b : Bool). cond b (lift g m e r) r) (sym h.0)
  lifted_only m e r new (inr h) = h.1 ∙ ap (λ (b : Bool). cond b (lift g m e r) r) (sym h.0)

  module _ (m : Mode) where
    -- ---- what is owed

    module _ (e : Arc) (begun : List Linear) where
      takes_is : (rows : List Linear) (r : Linear) → Takes g m e begun rows r (with_owed g m e begun rows r)
      takes_is rows r = by (is_covered r (begun ++ test_rows e.what)) refl
        where
          by : (t : Bool) → is_covered r (begun ++ test_rows e.what) ≡ t →
              (IsCovered r (begun ++ test_rows e.what) × (cond t rows (with_row rows (lifted g m e r)) ≡ rows)) ⊎
              ((IsCovered r (begun ++ test_rows e.what) → ⊥) × ((lift : Linear) × IsLifted g m e r lift × (cond t rows (with_row rows (lifted g m e r)) ≡ with_row rows lift)))
          by true h = inl (covered_is r (begun ++ test_rows e.what) h, refl)
          by false h = inr ((λ covered. (let test = is_covered_test r (begun ++ test_rows e.what) covered in absurd (cc))), (lifted g m e r, lifted_is m e r, refl))

      takes_only : (rows : List Linear) (r : Linear) (after : List Linear) → Takes g m e begun rows r after → after ≡ with_owed g m e begun rows r
      takes_only rows r after (inl h) = h.1 ∙ ap (λ (t : Bool). cond t rows (with_row rows (lifted g m e r))) (sym (is_covered_test r (begun ++ test_rows e.what) h.0))
      takes_only rows r after (inr (bare, (lift, is_lifted, is))) = by (is_covered r (begun ++ test_rows e.what)) refl
        where
          by : (t : Bool) → is_covered r (begun ++ test_rows e.what) ≡ t → after ≡ cond t rows (with_row rows (lifted g m e r))
          by true h = absurd (bare (covered_is r (begun ++ test_rows e.what) h))
          by false h = is ∙ ap (with_row rows) (lifted_only m e r lift is_lifted)

      all_is : (rows owed : List Linear) → TakesAll g m e begun rows owed (after_all (with_owed g m e begun) rows owed)
      all_is rows [] = refl
      all_is rows (r ∷ owed) = (with_owed g m e begun rows r, takes_is rows r, all_is (with_owed g m e begun rows r) owed)

      all_only : (rows owed after : List Linear) → TakesAll g m e begun rows owed after → after ≡ after_all (with_owed g m e begun) rows owed
      all_only rows [] after is = is
      all_only rows (r ∷ owed) after (next, takes, more) =
          all_only next owed after more ∙ ap (λ (z : List Linear). after_all (with_owed g m e begun) z owed) (takes_only rows r next takes)

    module _ (a : PointRows) (begun : List Linear) where
      edges_is : (rows : List Linear) (edges : List Arc) → TakesEdges g m a begun rows edges (after_all (with_edge_owed g m a begun) rows edges)
      edges_is rows [] = refl
      edges_is rows (e ∷ edges) =
          (with_edge_owed g m a begun rows e, all_is e begun rows (owes e.what (a e.to)), edges_is (with_edge_owed g m a begun rows e) edges)

      edges_only : (rows : List Linear) (edges : List Arc) (after : List Linear) → TakesEdges g m a begun rows edges after → after ≡ after_all (with_edge_owed g m a begun) rows edges
      edges_only rows [] after is = is
      edges_only rows (e ∷ edges) after (next, takes, more) =
          edges_only next edges after more ∙ ap (λ (z : List Linear). after_all (with_edge_owed g m a begun) z edges) (all_only e begun rows (owes e.what (a e.to)) next takes)

    -- ---- turns

    head_within : (points : List PointInfo) (p : ℕ) → is_head points p ≡ true → p < length points
    head_within [] p h = absurd (cc)
    head_within (point ∷ points) zero h = omega arith
    head_within (point ∷ points) (suc p) h = let within = head_within points p h in omega arith

    module _ (h : ℕ) (head : is_head g.points h ≡ true) (before : List (List Linear)) (long : length before ≡ length g.points) where
      begins : rows_at (need g before) h ≡ rows_at before h
      begins = (need_is g leads before).given h head

      here_is : rows_at (set before h (turned g m h before)) h ≡ turned g m h before
      here_is = get_or-set_same before h (turned g m h before) [] (let within = head_within g.points h head in omega arith)

      turn_is : IsTurn g m h before (set before h (turned g m h before))
      turn_is = record {
        long = length-set before h (turned g m h before);
        others = λ p other. get_or-set_other before h p (turned g m h before) [] other;
        here = λ a is.
            subst (λ (z : List Linear). TakesEdges g m (rows_at a) (rows_at before h) (rows_at before h) (leaving h g.edges) z) (sym here_is)
            (subst (λ (z : List (List Linear)). TakesEdges g m (rows_at z) (rows_at before h) (rows_at before h) (leaving h g.edges) (turned g m h before)) (sym (the_need g leads before a is))
            (subst (λ (z : List Linear). TakesEdges g m (rows_at (need g before)) z z (leaving h g.edges) (turned g m h before)) begins
            (edges_is (rows_at (need g before)) (rows_at (need g before) h) (rows_at (need g before) h) (leaving h g.edges))));
      }

      turn_only : (after : List (List Linear)) → IsTurn g m h before after → after ≡ set before h (turned g m h before)
      turn_only after is = ext_get_or [] after (set before h (turned g m h before)) (is.long ∙ sym (length-set before h (turned g m h before))) (λ q lt. at q (eqb_tells q h))
        where
          here : rows_at after h ≡ turned g m h before
          here =
              edges_only (rows_at (need g before)) (rows_at before h) (rows_at before h) (leaving h g.edges) (rows_at after h) (is.here (need g before) (need_is g leads before))
              ∙ ap (λ (z : List Linear). after_all (with_edge_owed g m (rows_at (need g before)) z) z (leaving h g.edges)) (sym begins)

          at : (q : ℕ) → (((q == h) ≡ true) × (q ≡ h)) ⊎ (((q == h) ≡ false) × (q ≡ h → ⊥)) → rows_at after q ≡ rows_at (set before h (turned g m h before)) q
          at q (inl k) = ap (rows_at after) k.1 ∙ here ∙ sym here_is ∙ ap (rows_at (set before h (turned g m h before))) (sym k.1)
          at q (inr k) = is.others q k.1 ∙ sym (get_or-set_other before h q (turned g m h before) [] k.1)

    -- ---- rounds

    turns_are : (n : ℕ) (before : List (List Linear)) → length before ≡ length g.points → HaveTurns g m n before (turns_below g m n before)
    turns_are zero before long = refl
    turns_are (suc n) before long = (turn g m n before, by (is_head g.points n) refl, turns_are n (turn g m n before) (turn_long g m n before ∙ long))
      where
        by : (t : Bool) → is_head g.points n ≡ t →
            ((t ≡ true) × IsTurn g m n before (cond t (set before n (turned g m n before)) before)) ⊎ ((t ≡ false) × (cond t (set before n (turned g m n before)) before ≡ before))
        by true head = inl (refl, turn_is n head before long)
        by false other = inr (refl, refl)

    turns_only : (n : ℕ) (before after : List (List Linear)) → length before ≡ length g.points → HaveTurns g m n before after → after ≡ turns_below g m n before
    turns_only zero before after long is = is
    turns_only (suc n) before after long (next, takes, more) =
        turns_only n next after (ap (length {A = List Linear}) same ∙ turn_long g m n before ∙ long) more ∙ ap (turns_below g m n) same
      where
        by : ((is_head g.points n ≡ true) × IsTurn g m n before next) ⊎ ((is_head g.points n ≡ false) × (next ≡ before)) → next ≡ turn g m n before
        by (inl k) = turn_only n k.0 before long next k.1 ∙ ap (λ (t : Bool). cond t (set before n (turned g m n before)) before) (sym k.0)
        by (inr k) = k.1 ∙ ap (λ (t : Bool). cond t (set before n (turned g m n before)) before) (sym k.0)

        same : next ≡ turn g m n before
        same = by takes

    rounds_are : (n : ℕ) (before : List (List Linear)) → length before ≡ length g.points → AreRounds n g m before (rounds n g m before)
    rounds_are zero before long = refl
    rounds_are (suc n) before long =
        let next = turns_below g m (length g.points) before in
        (next, turns_are (length g.points) before long, rounds_are n next (turns_long g m (length g.points) before ∙ long))

    rounds_only : (n : ℕ) (before after : List (List Linear)) → length before ≡ length g.points → AreRounds n g m before after → after ≡ rounds n g m before
    rounds_only zero before after long is = is
    rounds_only (suc n) before after long (next, turns, more) =
        let same = turns_only (length g.points) before next long turns in
        rounds_only n next after (ap (length {A = List Linear}) same ∙ turns_long g m (length g.points) before ∙ long) more ∙ ap (rounds n g m) same

  -- ---- the candidate

  none : (m : Mode) → AreRounds ROUNDS g m (no_rows g.points) (rounds ROUNDS g m (no_rows g.points))
  none m = rounds_are m ROUNDS (no_rows g.points) (none_long g.points)

  no_other : (m : Mode) (heads : List (List Linear)) → AreRounds ROUNDS g m (no_rows g.points) heads → heads ≡ rounds ROUNDS g m (no_rows g.points)
  no_other m heads is = rounds_only m ROUNDS (no_rows g.points) heads (none_long g.points) is

  heads_are : (m : Mode) → AreHeads g m (heads_by g m)
  heads_are Hint = refl
  heads_are Plain = none Plain
  heads_are Tilt1 = none Tilt1
  heads_are Tilt2 = none Tilt2
  heads_are Escape = none Escape

  heads_only : (m : Mode) (heads : List (List Linear)) → AreHeads g m heads → heads ≡ heads_by g m
  heads_only Hint heads is = is
  heads_only Plain heads is = no_other Plain heads is
  heads_only Tilt1 heads is = no_other Tilt1 heads is
  heads_only Tilt2 heads is = no_other Tilt2 heads is
  heads_only Escape heads is = no_other Escape heads is

  candidate_only : (m : Mode) (a : List (List Linear)) → IsCandidate g m a → a ≡ candidate g m
  candidate_only m a (heads, are, is) = the_need g leads heads a is ∙ ap (need g) (heads_only m heads are)

pub candidate_is_meant : CandidateIsMeant
candidate_is_meant g m is = record {
  is = (heads_by g m, heads_are g is.leads m, need_is g is.leads (heads_by g m));
  only = candidate_only g is.leads m;
}
