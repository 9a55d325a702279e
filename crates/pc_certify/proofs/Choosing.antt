-- The choice of an alternative for a candidate.
use Rattle.std.proofs.Common.{◌≡◌, ◌<◌, ◌≤◌, List, length, arith, refl, sym, ap, subst, ◌∙◌, inl, inr, Bool, true, false, Option, Some, None, Result, Ok, Err}
use Rattle.std.specs.Prelude.{IfOk, IfSome}
use Rattle.pc_rows.specs.declared.rows.NoMemory.{NoMemory}
use Rattle.pc_rows.specs.declared.rows.TheConstants.{ROWS}
use Rattle.pc_rows.specs.Linear.{Linear, State, MeetsAll}
use Rattle.pc_flow.specs.Annotation.{Annotation, rows_at}
use Rattle.pc_flow.specs.Flow.{Flow}
use Rattle.pc_lower.specs.Laws.{IsComplete}
use Rattle.pc_certificate.specs.declared.certificate.Annotated.{Annotated}
use Rattle.pc_entail.specs.Showing.{ContradictoryIs}
use Rattle.pc_entail.proofs.Finding.{contradictory_states}
use Rattle.pc_certify.specs.Candidates.{Candidate}
use Rattle.pc_certify.specs.Causes.{Fails}
use Rattle.pc_certify.specs.Claims.{IsProved}
use Rattle.pc_certify.specs.Entries.{IsOfEntry, HasRows, ReducesTo, PossibleIs}
use Rattle.pc_certify.specs.Inferring.{IsChosen, ChosenIs, FoundIs, ChosenOf, ChoiceIs, TakesFound, TakesNext}
use Rattle.pc_certify.specs.Proving.{AnnotatedIs}
use Rattle.pc_certify.specs.Selecting.{HasEntry}
use Rattle.pc_certify.proofs.Claimed.{annotation_proved}

-- an alternative whose rows are not found to contradict each other
pub possible_stays : (a : Annotated) (rows : List Linear) (found : Bool) → rows ≡ rows_at a.rows 0 → length rows ≤ ROWS → ContradictoryIs rows (Ok found) → found ≡ false →
    PossibleIs a (Ok (Some a))
possible_stays a rows found is most h e =
    let told = subst (λ (b : Bool). ContradictoryIs rows (Ok b)) e h in
    (refl, subst (λ (z : List Linear). length z ≤ ROWS) is most, subst (λ (z : List Linear). ContradictoryIs z (Ok false)) is told)

-- an annotation with proofs

module _ (g : Flow) (a : Annotation) (o : Option Annotated) where
  pub annotated_is : (b : Annotated) → o ≡ Some b → AnnotatedIs g a (Ok o) → b.rows ≡ a
  annotated_is b is h = (subst (λ (z : Option Annotated). AnnotatedIs g a (Ok z)) is h).0

  pub annotated_proved : (b : Annotated) → o ≡ Some b → IsComplete g a → AnnotatedIs g a (Ok o) → IsProved g b
  annotated_proved b is complete h =
      let found = subst (λ (z : Option Annotated). AnnotatedIs g a (Ok z)) is h in
      annotation_proved g a complete b found.0 found.1

-- it is chosen with its rows at the entry reduced, unless they contradict each other
module _ (g : Flow) (a : Annotation) (b d : Annotated) (is : b.rows ≡ a) (reduces : ReducesTo g b d) where
  of_entry : IsOfEntry g a (rows_at d.rows 0)
  of_entry = subst (λ (z : Annotation). IsOfEntry g z (rows_at d.rows 0)) is reduces.rows

  same_states : (s : State) → MeetsAll s (rows_at a 0) → MeetsAll s (rows_at d.rows 0)
  same_states s m = (reduces.states s).0 (subst (λ (z : Annotation). MeetsAll s (rows_at z 0)) (sym is) m)

  others : HasRows a d
  others i later = reduces.others i later ∙ ap (λ (z : Annotation). rows_at z i) is

  pub chosen_is : (found : Result (Option Annotated) NoMemory) → PossibleIs d found → ChosenIs g a found
  chosen_is (Ok (Some x)) h =
      subst (IsChosen g a) (sym h.0)
      (record { proved = reduces.proved; entry = record { most = h.1; over = reduces.proved.entry; reduced = of_entry; met = h.2 }; states = same_states; others = others })
  chosen_is (Ok None) h = inr ((rows_at d.rows 0, of_entry, h), λ s m. contradictory_states (rows_at d.rows 0) (Ok true) h refl s (same_states s m))
  chosen_is (Err e) h = tt

-- the choice for a candidate, and what is kept after it
module _ (g : Flow) (k : Candidate) (Tame Promised : Type 0) (tame : Promised → Tame) (holds : Promised → Fails g k.rows → ⊥) where
  of_rows : (choice : Result (Option Annotated) NoMemory) → ChosenIs g k.rows choice → ChoiceIs g k Promised choice
  of_rows (Ok (Some b)) h = h
  of_rows (Ok None) (inl fails) = record { cause = inr (inl fails); states = λ p. absurd (holds p fails) }
  of_rows (Ok None) (inr none) = record { cause = inr (inr none.0); states = λ p. none.1 }
  of_rows (Err e) h = tt

  pub choice_is : (found : Option Annotation) → FoundIs g k Tame (Ok found) → (choice : Result (Option Annotated) NoMemory) → ChosenOf g found choice → ChoiceIs g k Promised choice
  choice_is (Some a) is choice h = of_rows choice (subst (λ (z : Annotation). ChosenIs g z choice) is.1 h)
  choice_is None is (Ok (Some b)) h = absurd (cc)
  choice_is None is (Ok None) h = record { cause = inl is.0; states = λ p. absurd (is.1 (tame p)) }
  choice_is None is (Err e) h = tt

  pub takes_is : (found : Option Annotation) → FoundIs g k Tame (Ok found) → (kept : List Annotated) (new : Result (List Annotated) NoMemory) →
      IfOk new (TakesFound g found kept) → IfOk new (TakesNext g k Promised kept)
  takes_is found is kept (Ok new) (choice, h, selects) = (choice, choice_is found is (Ok choice) h, selects)
  takes_is found is kept (Err e) h = tt

-- a candidate that is found is complete
pub found_complete : (g : Flow) (k : Candidate) (Tame : Type 0) (found : Option Annotation) → FoundIs g k Tame (Ok found) → IfSome found (IsComplete g)
found_complete g k Tame (Some a) h = h.0
found_complete g k Tame None h = tt

-- the alternative of an annotation that is there has rows for the entry
pub chosen_entry : (g : Flow) (found : Option Annotation) (o : Option Annotated) (b : Annotated) → o ≡ Some b → 1 < length g.points → ChosenOf g found (Ok o) → HasEntry b
chosen_entry g found o b is some h = by found (subst (λ (z : Option Annotated). ChosenOf g found (Ok z)) is h)
  where
    by : (found : Option Annotation) → ChosenOf g found (Ok (Some b)) → HasEntry b
    by (Some a) h = let long = h.proved.long in omega arith
    by None h = absurd (cc)
