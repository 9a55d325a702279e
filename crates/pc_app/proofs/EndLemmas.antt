-- What follows from how a call ends.
use Rattle.std.proofs.Common.{◌≡◌, sym, ℕ, ◌↔◌, ◌⊎◌, inl, inr, List, Option, arith, subst}
use Rattle.pc_ports.specs.Outside.{Holding, Rose, Appended}
use Rattle.pc_text.specs.Bytes.{Bytes}
use Rattle.pc_words.specs.Words.{Order}
use Rattle.pc_words.specs.Taken.{AreCommand, Orders}
use Rattle.pc_words.proofs.SpellingLemmas.{one_thing}
use Rattle.pc_app.specs.declared.status.TheConstants.{DONE, FAILED, USAGE, REFUSED, MALFORMED, STORE_FAILED, SINK_FAILED, NO_MEMORY, TOO_LONG, PAST}
use Rattle.pc_app.specs.Inputs.{Given}
use Rattle.pc_app.specs.Causes.{AreLost}
use Rattle.pc_app.specs.Tasks.{Task, Keeps}
use Rattle.pc_app.specs.Table.{task_of, files_of}
use Rattle.pc_app.specs.Answers.{TaskAnswers, LacksFile}
use Rattle.pc_app.specs.Promises.{AreTold, AreThere, IsAnswered, IsOnlyStatus, HasAnswered, IsCutOff, Ends, OrderIsTooLong, OrderIsFaulty, OrderIsMeant, OrderHasFailed, OrderIsPast, IsOutcome}
use Rattle.pc_app.specs.Promises.Ends.{Answered, Unread, CutOff, Starved}
use Rattle.pc_app.proofs.InputLemmas.{IsEnd, too_long_answer, faulty_answers, meant_answers, too_long_cause, faulty_causes, meant_causes, outcome, printed, are_there, none_lost}
use Rattle.pc_app.proofs.TaskLemmas.{Lawful}
use Rattle.pc_app.proofs.TableLemmas.{lawful}
use Rattle.pc_app.proofs.AnswerLemmas.{order_answers, answers_is_answered, answers_usage, order_once, words_once}

-- what the files of a command mean is answered by none of the statuses of files that mean nothing
never : (task : Task) → Lawful task → (status : ℕ) (text : Bytes) → (IsEnd status → ⊥) → (given : Given task.inputs) → task.Says given status text → ⊥
never task law status text none given says = none (law.end status (law.ends given status text says))

no_end : (status : ℕ) → (status ≡ TOO_LONG) ⊎ ((status ≡ REFUSED) ⊎ (status ≡ MALFORMED)) → IsEnd status → ⊥
no_end status h is = by is.end
  where
    by : (status ≡ DONE) ⊎ ((status ≡ FAILED) ⊎ (status ≡ PAST)) → ⊥
    by e = omega arith

end_is_answered : (status : ℕ) → IsEnd status → IsAnswered status
end_is_answered status is = by is.end
  where
    by : (status ≡ DONE) ⊎ ((status ≡ FAILED) ⊎ (status ≡ PAST)) → IsAnswered status
    by e = (omega arith, omega arith, omega arith)

module _ (words : List Bytes) (held : Bytes → Holding) (old new : Option Bytes) (store_before store_now sink_before sink_now status : ℕ) where
  abbrev pub Ended : Type 0
  Ended = Ends words held old new store_before store_now sink_before sink_now status

  pub answered : Ended → IsAnswered status → HasAnswered words held status old new
  answered (Answered a) is = a
  answered (Unread s lacks same) is = absurd (is.0 s)
  answered (CutOff s cut) is = absurd (is.1 s)
  answered (Starved s same) is = absurd (is.2 s)

  -- how an order is answered
  order_of : Ended → IsAnswered status → (order : Order) → Orders words order → (text : Bytes) × TaskAnswers held (task_of order) status text × Appended old new text
  order_of ends is order ordered = let a = answered ends is in (a.text, order_answers held status a.text words order ordered a.answers, a.written)

  -- what a command promises that came to its end
  pub keeps : Ended → (order : Order) → Orders words order → (task_of order).Ends status → Keeps (task_of order) held status old new
  keeps ends order ordered ended =
      let law = lawful order in
      let end = law.end status ended in
      let a = order_of ends (end_is_answered status end) order ordered in
      printed held status a.0 (task_of order).inputs (task_of order).Says old new law.decided end a.2 a.1

  pub usage : Ended → IsAnswered status → (status ≡ USAGE) ↔ (AreCommand words → ⊥)
  usage ends is = let a = answered ends is in answers_usage held status a.text words a.answers

  pub only : Ended → IsAnswered status → IsOnlyStatus words held status
  only ends is other text answers told = let a = answered ends is in words_once other text status a.text held words told answers a.answers

  -- a status comes exactly where its cause stands, where the cause gives an answer with it, and such an answer tells the cause
  exactly : Ended → IsAnswered status → (order : Order) → Orders words order → AreTold held (files_of order) → (other : ℕ) (Cause : Type 0) →
      ((text : Bytes) → status ≡ other → TaskAnswers held (task_of order) status text → Cause) → (Cause → (text : Bytes) × TaskAnswers held (task_of order) other text) → (status ≡ other) ↔ Cause
  exactly ends is order ordered told other Cause tells gives =
      let a = order_of ends is order ordered in
      (λ e. tells a.0 e a.1, λ h. let x = gives h in sym (order_once other x.0 status a.0 held order told x.1 a.1))

  pub too_long : Ended → (order : Order) → Orders words order → AreTold held (files_of order) → IsAnswered status → (status ≡ TOO_LONG) ↔ OrderIsTooLong held order
  too_long ends order ordered told is =
      let task = task_of order in
      let law = lawful order in
      exactly ends is order ordered told TOO_LONG (OrderIsTooLong held order)
      (λ text e a. too_long_cause held status text task.inputs task.Says law.decided (never task law status text (no_end status (inl e))) told e a)
      (too_long_answer held task.inputs task.Says)

  pub refused : Ended → (order : Order) → Orders words order → AreTold held (files_of order) → IsAnswered status → (status ≡ REFUSED) ↔ OrderIsFaulty REFUSED held order
  refused ends order ordered told is =
      let task = task_of order in
      let law = lawful order in
      exactly ends is order ordered told REFUSED (OrderIsFaulty REFUSED held order)
      (λ text e a. subst (λ (s : ℕ). OrderIsFaulty s held order) e (faulty_causes held status text task.inputs task.Says law.decided (never task law status text (no_end status (inr (inl e)))) told (λ l. omega arith) a))
      (faulty_answers held task.inputs task.Says law.decided REFUSED)

  pub malformed : Ended → (order : Order) → Orders words order → AreTold held (files_of order) → IsAnswered status → (status ≡ MALFORMED) ↔ OrderIsFaulty MALFORMED held order
  malformed ends order ordered told is =
      let task = task_of order in
      let law = lawful order in
      exactly ends is order ordered told MALFORMED (OrderIsFaulty MALFORMED held order)
      (λ text e a. subst (λ (s : ℕ). OrderIsFaulty s held order) e (faulty_causes held status text task.inputs task.Says law.decided (never task law status text (no_end status (inr (inr e)))) told (λ l. omega arith) a))
      (faulty_answers held task.inputs task.Says law.decided MALFORMED)

  pub failed : Ended → (order : Order) → Orders words order → AreTold held (files_of order) → IsAnswered status → (status ≡ FAILED) ↔ OrderHasFailed held order
  failed ends order ordered told is =
      let task = task_of order in
      let law = lawful order in
      exactly ends is order ordered told FAILED (OrderHasFailed held order)
      (λ text e a. meant_causes held status text task.inputs task.Says task.Fails law.decided (record { end = inr (inl e) }) (λ given says. law.failed given status text e says) told a)
      (meant_answers held task.inputs task.Says task.Fails FAILED law.fails)

  pub past : Ended → (order : Order) → Orders words order → AreTold held (files_of order) → IsAnswered status → (status ≡ PAST) ↔ OrderIsPast held order
  past ends order ordered told is =
      let task = task_of order in
      let law = lawful order in
      exactly ends is order ordered told PAST (OrderIsPast held order)
      (λ text e a. meant_causes held status text task.inputs task.Says task.IsPast law.decided (record { end = inr (inr e) }) (λ given says. law.left given status text e says) told a)
      (meant_answers held task.inputs task.Says task.IsPast PAST law.leaves)

  pub store : Ended → status ≡ STORE_FAILED → LacksFile words held store_before store_now
  store (Answered a) e = absurd ((answers_is_answered held status a.text words a.answers).0 e)
  store (Unread s lacks same) e = lacks
  store (CutOff s cut) e = absurd (omega arith)
  store (Starved s same) e = absurd (omega arith)

  pub sink : Ended → status ≡ SINK_FAILED → IsCutOff words held old new sink_before sink_now
  sink (Answered a) e = absurd ((answers_is_answered held status a.text words a.answers).1 e)
  sink (Unread s lacks same) e = absurd (omega arith)
  sink (CutOff s cut) e = cut
  sink (Starved s same) e = absurd (omega arith)

  pub unwritten : Ended → (status ≡ STORE_FAILED) ⊎ (status ≡ NO_MEMORY) → new ≡ old
  unwritten (Answered a) (inl e) = absurd ((answers_is_answered held status a.text words a.answers).0 e)
  unwritten (Answered a) (inr e) = absurd ((answers_is_answered held status a.text words a.answers).2 e)
  unwritten (Unread s lacks same) e = same
  unwritten (CutOff s cut) (inl e) = absurd (omega arith)
  unwritten (CutOff s cut) (inr e) = absurd (omega arith)
  unwritten (Starved s same) e = same

  pub answers : Ended → (order : Order) → Orders words order → AreThere held (files_of order) → (Rose store_before store_now → ⊥) → (Rose sink_before sink_now → ⊥) → IsAnswered status ⊎ (status ≡ NO_MEMORY)
  answers (Answered a) order is there store_kept sink_kept = inl (answers_is_answered held status a.text words a.answers)
  answers (Unread s lacks same) order is there store_kept sink_kept =
      let same = one_thing words order lacks.order is lacks.named in
      absurd (none_lost held store_before store_now store_kept (task_of order).inputs there
      (subst (λ (o : Order). AreLost held store_before store_now (task_of o).inputs) same lacks.lost))
  answers (CutOff s cut) order is there store_kept sink_kept = absurd (sink_kept cut.cause)
  answers (Starved s same) order is there store_kept sink_kept = inr s

  pub complete : Ended → (order : Order) → Orders words order → AreTold held (files_of order) → OrderIsMeant held order →
      (Rose store_before store_now → ⊥) → (Rose sink_before sink_now → ⊥) → IsOutcome order status ⊎ (status ≡ NO_MEMORY)
  complete ends order ordered told meant store_kept sink_kept = by (answers ends order ordered (are_there held (task_of order).inputs (λ given. Unit {0}) meant) store_kept sink_kept)
    where
      by : IsAnswered status ⊎ (status ≡ NO_MEMORY) → IsOutcome order status ⊎ (status ≡ NO_MEMORY)
      by (inl is) =
          let a = order_of ends is order ordered in
          let law = lawful order in
          inl (outcome held status a.0 (task_of order).inputs (task_of order).Says (λ given. Unit {0}) law.decided (λ given says. law.ends given status a.0 says) told meant a.1)
      by (inr s) = inr s
