-- What is kept after some candidates, and the alternatives of a graph.
use Rattle.std.proofs.Common.{◌≡◌, ℕ, ◌+◌, ◌≤◌, List, [], ◌∷◌, length, map, refl, sym, ap, subst, ◌∙◌, arith, inl, inr, Option, Some, None, Result, Ok, Err}
use Rattle.std.specs.Prelude.{IfOk}
use Rattle.std.specs.List.{AllByRecursion as Each}
use Rattle.pc_rows.specs.declared.rows.NoMemory.{NoMemory}
use Rattle.pc_rows.specs.Linear.{State, MeetsAll, MeetsSome}
use Rattle.pc_flow.specs.Annotation.{Annotation, rows_at}
use Rattle.pc_flow.specs.Flow.{Flow}
use Rattle.pc_flow.proofs.Lists.{each_more}
use Rattle.pc_flow.specs.Shape.{NoHeads}
use Rattle.pc_lower.specs.declared.mode.Mode.{Mode}
use Rattle.pc_lower.specs.declared.mode.Mode.TheVariants.{Hint, Plain, Tilt1, Tilt2, Escape}
use Rattle.pc_lower.specs.Annotation.{no_rows}
use Rattle.pc_lower.specs.Candidate.{candidate, heads_by}
use Rattle.pc_lower.specs.Tame.{AreTame, IsTame}
use Rattle.pc_lower.specs.TameCourse.{IsTameFor}
use Rattle.pc_lower.proofs.Meaning.{need_is_free}
use Rattle.pc_certificate.specs.declared.certificate.Annotated.{Annotated}
use Rattle.pc_certificate.specs.Certificate.{entry_rows}
use Rattle.pc_certify.specs.declared.inference.TheConstants.{CANDIDATES}
use Rattle.pc_certify.specs.Candidates.{Candidate, graph_need, of_need, of_mode, of_heads, IsTried, IsOrigin, IsPromised}
use Rattle.pc_certify.specs.Selecting.{AreApart}
use Rattle.pc_certify.specs.Inferring.{HasNone, IsChosen, ChoiceIs, TakesNext, Takes, TakesHeads, TakesEach, modes, IsKept, AreAlternatives}
use Rattle.pc_certify.proofs.Selecting.{MeetsOne, selects_each, selects_long, selects_some, selects_keeps, selects_takes, selects_apart}

-- what one of them says of the entry the condition says

first_rows : (all : Annotation) → rows_at all 0 ≡ entry_rows all
first_rows [] = refl
first_rows (rows ∷ all) = refl

meets_condition : (s : State) (all : List Annotated) → MeetsOne s all → MeetsSome s (map (λ a. entry_rows a.rows) all)
meets_condition s [] m = absurd m
meets_condition s (a ∷ all) (inl m) = inl (subst (MeetsAll s) (first_rows a.rows) m)
meets_condition s (a ∷ all) (inr m) = inr (meets_condition s all m)

chosen_is_kept : (g : Flow) (k : Candidate) (a : Annotated) → IsOrigin g k → IsChosen g k.rows a → IsKept g a
chosen_is_kept g k a origin h =
    record { proved = h.proved; alternative = record { candidate = k; origin = origin; entry = h.entry; others = h.others } }

-- a list put before another one, in the opposite order
abbrev onto : List Mode → List Mode → List Mode
onto [] done = done
onto (m ∷ ms) done = onto ms (m ∷ done)

-- with loops: one candidate after the other

-- some alternative has all states of a mode's candidate
abbrev Keeps : Flow → List Annotated → Mode → Type 0
Keeps g all m = IsPromised g m → (s : State) → MeetsAll s (rows_at (candidate g m) 0) → MeetsOne s all

-- what is kept after so many candidates, those of some modes among them
record AreKept (g : Flow) (count : ℕ) (done : List Mode) (all : List Annotated) : Type 0 where
  each : Each (IsKept g) all
  few : length all ≤ count
  apart : AreApart all
  none : all ≡ [] → Each (λ m. HasNone g (of_mode g m)) done
  keeps : Each (Keeps g all) done

nothing_yet : (g : Flow) → AreKept g 0 [] []
nothing_yet g = record { each = tt; few = omega arith; apart = tt; none = λ e. tt; keeps = tt }

more_kept : (g : Flow) (m n : ℕ) (done : List Mode) (all : List Annotated) → m ≤ n → AreKept g m done all → AreKept g n done all
more_kept g m n done all le h =
    let few = h.few in
    record { each = h.each; few = omega arith; apart = h.apart; none = h.none; keeps = h.keeps }

module _ (g : Flow) (k : Candidate) (origin : IsOrigin g k) (Promised : Type 0) where
  next_kept : (count : ℕ) (done : List Mode) (kept new : List Annotated) → AreKept g count done kept → TakesNext g k Promised kept new → AreKept g (count + 1) done new
  next_kept count done kept new h (None, choice, is) =
      let few = h.few in
      let long = ap (length {A = Annotated}) is in
      record {
        each = subst (Each (IsKept g)) (sym is) h.each;
        few = omega arith;
        apart = subst AreApart (sym is) h.apart;
        none = λ e. h.none (sym is ∙ e);
        keeps = subst (λ (z : List Annotated). Each (Keeps g z) done) (sym is) h.keeps;
      }
  next_kept count done kept new h (Some a, choice, selects) =
      let long = selects_long a kept new selects in
      let few = h.few in
      record {
        each = selects_each (IsKept g) a kept new selects h.each (chosen_is_kept g k a origin choice);
        few = omega arith;
        apart = selects_apart a kept new selects h.apart;
        none = λ e. absurd (selects_some a kept new selects e);
        keeps = each_more (Keeps g kept) (Keeps g new) (λ m keeps p s met. selects_keeps s a kept new selects (keeps p s met)) done h.keeps;
      }

  next_none : (kept new : List Annotated) → TakesNext g k Promised kept new → new ≡ [] → HasNone g k
  next_none kept new (None, choice, is) e = choice.cause
  next_none kept new (Some a, choice, selects) e = absurd (selects_some a kept new selects e)

  next_states : (kept new : List Annotated) → TakesNext g k Promised kept new → Promised → (s : State) → MeetsAll s (rows_at k.rows 0) → MeetsOne s new
  next_states kept new (None, choice, is) p s met = absurd (choice.states p s met)
  next_states kept new (Some a, choice, selects) p s met = selects_takes s a kept new selects (choice.states s met)

-- the modes one after the other
pub modes_taken : (g : Flow) (hint plain tilt1 tilt2 : List Annotated) (found : Result (List Annotated) NoMemory) → Takes g Hint [] hint → Takes g Plain hint plain → Takes g Tilt1 plain tilt1 →
    Takes g Tilt2 tilt1 tilt2 → IfOk found (Takes g Escape tilt2) → IfOk found (TakesEach (Takes g) modes [])
modes_taken g hint plain tilt1 tilt2 (Ok escape) a b c d e = (hint, a, (plain, b, (tilt1, c, (tilt2, d, (escape, e, refl)))))
modes_taken g hint plain tilt1 tilt2 (Err x) a b c d e = tt

module _ (g : Flow) (loops : NoHeads g.points → ⊥) where
  mode_kept : (m : Mode) (count : ℕ) (done : List Mode) (kept new : List Annotated) → AreKept g count done kept → Takes g m kept new → AreKept g (count + 1) (m ∷ done) new
  mode_kept m count done kept new h takes =
      let next = next_kept g (of_mode g m) (inl (inr (loops, (m, refl)))) (IsPromised g m) count done kept new h takes in
      record {
        each = next.each;
        few = next.few;
        apart = next.apart;
        none = λ e. (next_none g (of_mode g m) (inl (inr (loops, (m, refl)))) (IsPromised g m) kept new takes e, next.none e);
        keeps = (next_states g (of_mode g m) (inl (inr (loops, (m, refl)))) (IsPromised g m) kept new takes, next.keeps);
      }

  modes_kept : (ms done : List Mode) (count : ℕ) (kept new : List Annotated) → AreKept g count done kept → TakesEach (Takes g) ms kept new → AreKept g (count + length ms) (onto ms done) new
  modes_kept [] done count kept new h is = more_kept g count (count + 0) done new (omega arith) (subst (AreKept g count done) (sym is) h)
  modes_kept (m ∷ ms) done count kept new h (next, takes, more) =
      more_kept g (count + 1 + length ms) (count + length (m ∷ ms)) (onto ms (m ∷ done)) new (omega arith)
      (modes_kept ms (m ∷ done) (count + 1) next new (mode_kept m count done kept next h takes) more)

  heads_kept : (later : List Annotation) (done : List Mode) (count : ℕ) (kept new : List Annotated) → AreKept g count done kept → TakesEach (TakesHeads g) later kept new →
      AreKept g (count + length later) done new
  heads_kept [] done count kept new h is = more_kept g count (count + 0) done new (omega arith) (subst (AreKept g count done) (sym is) h)
  heads_kept (heads ∷ later) done count kept new h (next, takes, more) =
      more_kept g (count + 1 + length later) (count + length (heads ∷ later)) done new (omega arith)
      (heads_kept later done (count + 1) next new (next_kept g (of_heads g heads) (inr (loops, (heads, refl))) ⊥ count done kept next h takes) more)

  each_mode : (P : Mode → Type 0) → Each P (onto modes []) → (m : Mode) → P m
  each_mode P h Hint = h.1.1.1.1.0
  each_mode P h Plain = h.1.1.1.0
  each_mode P h Tilt1 = h.1.1.0
  each_mode P h Tilt2 = h.1.0
  each_mode P h Escape = h.0

  none_of_tried : Each (λ m. HasNone g (of_mode g m)) (onto modes []) → (k : Candidate) → IsTried g k → HasNone g k
  none_of_tried h k (inl (none, is)) = absurd (loops none)
  none_of_tried h k (inr (some, (m, is))) = subst (HasNone g) (sym is) (each_mode (λ m. HasNone g (of_mode g m)) h m)

  are_alternatives : (count : ℕ) (all : List Annotated) → count ≤ CANDIDATES → AreKept g count (onto modes []) all → AreAlternatives g all
  are_alternatives count all le kept =
      let few = kept.few in
      record {
        each = kept.each;
        few = omega arith;
        one = λ none. absurd (loops none);
        apart = kept.apart;
        none = λ e. none_of_tried (kept.none e);
        exact = λ none. absurd (loops none);
        covers = λ m p s met. meets_condition s all (each_mode (Keeps g all) kept.keeps m p s met);
      }

  all_modes : (kept : List Annotated) → TakesEach (Takes g) modes [] kept → AreKept g 5 (onto modes []) kept
  all_modes kept takes =
      let five : length modes ≡ 5 = refl in
      more_kept g (0 + length modes) 5 (onto modes []) kept (omega arith) (modes_kept modes [] 0 [] kept (nothing_yet g) takes)

  -- all modes, and at most four lists of heads
  pub all_taken : (later : List Annotation) (kept : List Annotated) (new : Result (List Annotated) NoMemory) → length later ≤ 4 → TakesEach (Takes g) modes [] kept →
      IfOk new (TakesEach (TakesHeads g) later kept) → IfOk new (AreAlternatives g)
  all_taken later kept (Err e) few takes more = tt
  all_taken later kept (Ok new) few takes more =
      are_alternatives (5 + length later) new (omega arith)
      (heads_kept later (onto modes []) 5 kept new (all_modes kept takes) more)

-- without loops: the need

module _ (g : Flow) (none : NoHeads g.points) where
  -- it is the candidate of every mode
  is_need : (m : Mode) → candidate g m ≡ graph_need g
  is_need m = need_is_free g (heads_by g m) (no_rows g.points) none

  is_tame : (m : Mode) → IsTameFor g m → IsTame g
  is_tame m tame = record { edges = tame.edges; points = subst (Each AreTame) (is_need m) tame.candidate }

  none_is_tried : HasNone g (of_need g) → (k : Candidate) → IsTried g k → HasNone g k
  none_is_tried h k (inl (without, is)) = subst (HasNone g) (sym is) h
  none_is_tried h k (inr (some, mode)) = absurd (some none)

  -- the states of the need are those of each candidate
  module _ (all : List Annotated) (exact : IsTame g → (s : State) → MeetsAll s (rows_at (graph_need g) 0) → MeetsOne s all) where
    keeps : (m : Mode) → Keeps g all m
    keeps m p s met = exact (is_tame m p.tame) s (subst (λ (z : Annotation). MeetsAll s (rows_at z 0)) (is_need m) met)

  pub need_taken : (o : Option Annotated) (a : Annotated) → o ≡ Some a → ChoiceIs g (of_need g) (IsTame g) (Ok o) → AreAlternatives g (a ∷ [])
  need_taken o a is h =
      let chosen = subst (λ (z : Option Annotated). ChoiceIs g (of_need g) (IsTame g) (Ok z)) is h in
      let exact : IsTame g → (s : State) → MeetsAll s (rows_at (graph_need g) 0) → MeetsOne s (a ∷ []) = λ tame s m. inl (chosen.states s m) in
      record {
        each = (chosen_is_kept g (of_need g) a (inl (inl (none, refl))) chosen, tt);
        few = omega arith;
        one = λ no. omega arith;
        apart = (tt, tt);
        none = λ e. absurd (cc);
        exact = λ no tame s m. meets_condition s (a ∷ []) (exact tame s m);
        covers = λ m p s met. meets_condition s (a ∷ []) (keeps (a ∷ []) exact m p s met);
      }

  pub need_not_taken : (o : Option Annotated) → o ≡ None → ChoiceIs g (of_need g) (IsTame g) (Ok o) → AreAlternatives g []
  need_not_taken o is h =
      let not_chosen = subst (λ (z : Option Annotated). ChoiceIs g (of_need g) (IsTame g) (Ok z)) is h in
      let exact : IsTame g → (s : State) → MeetsAll s (rows_at (graph_need g) 0) → MeetsOne s [] = λ tame s m. not_chosen.states tame s m in
      record {
        each = tt;
        few = omega arith;
        one = λ no. omega arith;
        apart = tt;
        none = λ e. none_is_tried not_chosen.cause;
        exact = λ no tame s m. absurd (exact tame s m);
        covers = λ m p s met. absurd (keeps [] exact m p s met);
      }
