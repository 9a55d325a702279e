-- Steps over a list, one after the other, and the operations by which they are taken.
use Rattle.std.proofs.Common.{◌≡◌, ◌∙◌, subst, sym, refl, ap, List, [], ◌∷◌, ◌++◌, Result, Err, append_assoc}
use Rattle.std.specs.List.{AllByRecursion as Each}
use Rattle.pc_lower.specs.declared.fault.CandidateFault.{CandidateFault}
use Rattle.pc_lower.specs.Operations.{Operation, Fits, Answers, after_all, operations_of_all}
use Rattle.pc_lower.proofs.Answering.{Left, left_all, left_over, refused, answer_after}

module _ {S X : Type 0} (step : S → X → S) (os : S → X → List Operation) (start : S) (xs : List X) where
  -- what was reached so far, and the items that are left
  pub record Goes (rest : List X) (s : S) : Type 0 where
    pub value : after_all step s rest ≡ after_all step start xs
    pub left : Left (operations_of_all step os s rest) (operations_of_all step os start xs)

  pub goes_none : Goes xs start
  goes_none = record { value = refl; left = left_all (operations_of_all step os start xs) }

  pub goes_next : (x : X) (rest : List X) (s new : S) → Goes (x ∷ rest) s → Each Fits (os s x) → new ≡ step s x → Goes rest new
  goes_next x rest s new h fit is =
      subst (Goes rest) (sym is) (record { value = h.value; left = left_over (os s x) (operations_of_all step os (step s x) rest) (operations_of_all step os start xs) h.left fit })

  pub goes_refused : {A B : Type 0} (x : X) (rest : List X) (s : S) (part : A) (value : B) (f : CandidateFault) → Goes (x ∷ rest) s → Answers (os s x) part (Err f) →
      Answers (operations_of_all step os start xs) value (Err f)
  goes_refused x rest s part value f h answer = refused (os s x) (operations_of_all step os (step s x) rest) (operations_of_all step os start xs) part value f h.left answer

  pub goes_all : (s : S) → Goes [] s → Each Fits (operations_of_all step os start xs) × (s ≡ after_all step start xs)
  goes_all s h = (h.left.fit tt, h.value)

-- steps over two lists

module _ {S X : Type 0} (step : S → X → S) (os : S → X → List Operation) where
  after-append : (s : S) (xs ys : List X) → after_all step s (xs ++ ys) ≡ after_all step (after_all step s xs) ys
  after-append s [] ys = refl
  after-append s (x ∷ xs) ys = after-append (step s x) xs ys

  operations-append : (s : S) (xs ys : List X) → operations_of_all step os s (xs ++ ys) ≡ operations_of_all step os s xs ++ operations_of_all step os (after_all step s xs) ys
  operations-append s [] ys = refl
  operations-append s (x ∷ xs) ys = ap (λ (z : List Operation). os s x ++ z) (operations-append (step s x) xs ys) ∙ sym (append_assoc (os s x) (operations_of_all step os (step s x) xs) (operations_of_all step os (after_all step s (x ∷ xs)) ys))

  pub both_answer : (s middle : S) (xs ys : List X) (answer : Result S CandidateFault) → Each Fits (operations_of_all step os s xs) → middle ≡ after_all step s xs →
      Answers (operations_of_all step os middle ys) (after_all step middle ys) answer → Answers (operations_of_all step os s (xs ++ ys)) (after_all step s (xs ++ ys)) answer
  both_answer s middle xs ys answer fit is answers =
      let later = subst (λ (z : S). Answers (operations_of_all step os z ys) (after_all step z ys) answer) is answers in
      subst (λ (z : S). Answers (operations_of_all step os s (xs ++ ys)) z answer) (sym (after-append s xs ys))
      (subst (λ (z : List Operation). Answers z (after_all step (after_all step s xs) ys) answer) (sym (operations-append s xs ys))
      (answer_after (operations_of_all step os s xs) (operations_of_all step os (after_all step s xs) ys) _ answer fit later))

  pub first_refused : {A B : Type 0} (s : S) (xs ys : List X) (part : A) (value : B) (f : CandidateFault) → Answers (operations_of_all step os s xs) part (Err f) →
      Answers (operations_of_all step os s (xs ++ ys)) value (Err f)
  first_refused s xs ys part value f answer =
      subst (λ (z : List Operation). Answers z value (Err f)) (sym (operations-append s xs ys))
      (refused (operations_of_all step os s xs) (operations_of_all step os (after_all step s xs) ys) _ part value f (left_all _) answer)
