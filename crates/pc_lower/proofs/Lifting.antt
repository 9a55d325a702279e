-- Lifts of rows that are owed, and the operations by which they are found and joined.
use Rattle.std.proofs.Common.{◌≡◌, ◌∙◌, ℕ, zero, suc, ◌+◌, ◌<◌, length, arith, List, [], ◌∷◌, ◌++◌, drop, sym, refl, ap, subst, cond, Bool, true, false, Err, Result, Some, slice_get, inl}
use Rattle.std.specs.Prelude.{◌&&◌}
use Rattle.std.specs.List.{AllByRecursion as Each, list_all}
use Rattle.pc_rows.specs.Linear.{Linear, IsInRange, difference_of}
use Rattle.pc_rows.specs.Joins.{is_covered, with_row, joined}
use Rattle.pc_rows.proofs.Adding.{drop_got}
use Rattle.pc_rows.proofs.Joining.{each_join}
use Rattle.pc_flow.specs.Arc.{Arc}
use Rattle.pc_flow.specs.Carry.{test_rows}
use Rattle.pc_flow.specs.Flow.{Flow}
use Rattle.pc_lower.specs.declared.fault.CandidateFault.{CandidateFault}
use Rattle.pc_lower.specs.declared.fault.CandidateFault.TheVariants.{Past}
use Rattle.pc_lower.specs.declared.mode.Mode.{Mode}
use Rattle.pc_lower.specs.Candidate.{is_steady, tilted, lifted, with_owed}
use Rattle.pc_lower.specs.Course.{steady_operations, tilt_operations, lifted_operations, owed_operations}
use Rattle.pc_lower.specs.Operations.{Operation, Joins, Subtracts, Fits, IsFirstFault, Answers}
use Rattle.pc_lower.proofs.Answering.{left_all, refused, answer_after, fault_after}

-- a test of all rows, row by row

pub all_next : (test : Linear → Bool) (rows : List Linear) (i : ℕ) (r : Linear) → slice_get rows i ≡ Some r → test r ≡ true → list_all test (drop i rows) ≡ list_all test rows →
    list_all test (drop (i + 1) rows) ≡ list_all test rows
all_next test rows i r at holds so_far = sym (ap (λ (b : Bool). b && list_all test (drop (i + 1) rows)) holds) ∙ ap (list_all test) (sym (drop_got rows i r at)) ∙ so_far

pub all_fails : (test : Linear → Bool) (rows : List Linear) (i : ℕ) (r : Linear) → slice_get rows i ≡ Some r → test r ≡ false → list_all test (drop i rows) ≡ list_all test rows →
    false ≡ list_all test rows
all_fails test rows i r at fails so_far = sym (ap (λ (b : Bool). b && list_all test (drop (i + 1) rows)) fails) ∙ ap (list_all test) (sym (drop_got rows i r at)) ∙ so_far

-- a row minus a row of the test, unless it is steady

module _ (g : Flow) (e : Arc) (r t : Linear) (own more : List Linear) (is : own ≡ t ∷ more) where
  tilt_unsettled : {A B : Type 0} (part : A) (value : B) (f : CandidateFault) → Answers (steady_operations g e.from r) part (Err f) → Answers (tilt_operations g e r own) value (Err f)
  tilt_unsettled part value f answer =
      subst (λ (z : List Linear). Answers (tilt_operations g e r z) value (Err f)) (sym is)
      (refused (steady_operations g e.from r) (cond (is_steady g e r) [] (Subtracts r t ∷ [])) _ part value f (left_all _) answer)

  module _ (b : Bool) (fit : Each Fits (steady_operations g e.from r)) (told : b ≡ is_steady g e r) (unsteady : b ≡ false) where
    pub tilt_done : (x : Linear) → IsInRange (difference_of r t) → x ≡ difference_of r t → Each Fits (tilt_operations g e r own) × (x ≡ tilted g e r own)
    tilt_done x range value =
        let not_steady = sym told ∙ unsteady in
        subst (λ (z : List Linear). Each Fits (tilt_operations g e r z) × (x ≡ tilted g e r z)) (sym is) (
          each_join Fits (steady_operations g e.from r) _ fit (subst (λ (s : Bool). Each Fits (cond s [] (Subtracts r t ∷ []))) (sym not_steady) (range, tt)),
          value ∙ ap (λ (s : Bool). cond s r (difference_of r t)) (sym not_steady),
        )

    pub tilt_past : {A : Type 0} (value : A) → (IsInRange (difference_of r t) → ⊥) → Answers (tilt_operations g e r own) value (Err Past)
    tilt_past value past =
        let not_steady = sym told ∙ unsteady in
        subst (λ (z : List Linear). Answers (tilt_operations g e r z) value (Err Past)) (sym is)
        (fault_after Past (steady_operations g e.from r) _ fit (subst (λ (s : Bool). IsFirstFault Past (cond s [] (Subtracts r t ∷ []))) (sym not_steady) (inl (past, refl))))

pub tilt_unsettled_at : {A B : Type 0} (g : Flow) (e : Arc) (r : Linear) (own : List Linear) (k : ℕ) → k < length own → (part : A) (value : B) (f : CandidateFault) →
    Answers (steady_operations g e.from r) part (Err f) → Answers (tilt_operations g e r (drop k own)) value (Err f)
tilt_unsettled_at g e r [] k lt part value f answer = absurd (omega arith)
tilt_unsettled_at g e r (t ∷ own) zero lt part value f answer = tilt_unsettled g e r t (t ∷ own) own refl part value f answer
tilt_unsettled_at g e r (t ∷ own) (suc k) lt part value f answer = tilt_unsettled_at g e r own k (omega arith) part value f answer

-- a row that is owed

module _ (g : Flow) (m : Mode) (e : Arc) (begun rows : List Linear) (r : Linear) (bare : is_covered r (begun ++ test_rows e.what) ≡ false) where
  bare_operations : owed_operations g m e begun rows r ≡ lifted_operations g m e r ++ Joins rows (lifted g m e r ∷ []) ∷ []
  bare_operations = ap (λ (t : Bool). cond t [] (lifted_operations g m e r ++ Joins rows (lifted g m e r ∷ []) ∷ [])) bare

  bare_rows : with_owed g m e begun rows r ≡ with_row rows (lifted g m e r)
  bare_rows = ap (λ (t : Bool). cond t rows (with_row rows (lifted g m e r))) bare

  pub owed_refused : {A B : Type 0} (part : A) (value : B) (f : CandidateFault) → Answers (lifted_operations g m e r) part (Err f) → Answers (owed_operations g m e begun rows r) value (Err f)
  owed_refused part value f answer =
      subst (λ (z : List Operation). Answers z value (Err f)) (sym bare_operations)
      (refused (lifted_operations g m e r) (Joins rows (lifted g m e r ∷ []) ∷ []) _ part value f (left_all _) answer)

  pub owed_joined : (lift : Linear) (one : List Linear) (answer : Result (List Linear) CandidateFault) → Each Fits (lifted_operations g m e r) → lift ≡ lifted g m e r → one ≡ lift ∷ [] →
      Answers (Joins rows one ∷ []) (joined rows one) answer → Answers (owed_operations g m e begun rows r) (with_owed g m e begun rows r) answer
  owed_joined lift one answer fit is single answers =
      let same : one ≡ lifted g m e r ∷ [] = single ∙ ap (λ (z : Linear). z ∷ []) is in
      let whole = answer_after (lifted_operations g m e r) (Joins rows (lifted g m e r ∷ []) ∷ []) (joined rows (lifted g m e r ∷ [])) answer fit
      (subst (λ (z : List Linear). Answers (Joins rows z ∷ []) (joined rows z) answer) same answers) in
      subst (λ (z : List Linear). Answers (owed_operations g m e begun rows r) z answer) (sym bare_rows)
      (subst (λ (z : List Operation). Answers z (joined rows (lifted g m e r ∷ [])) answer) (sym bare_operations) whole)
