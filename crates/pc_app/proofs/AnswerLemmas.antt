-- What follows from how words are answered.
use Rattle.std.proofs.Common.{◌≡◌, ◌∙◌, sym, ◌↔◌, subst, ℕ, List, arith, ◌⊎◌}
use Rattle.pc_ports.specs.Outside.{Holding}
use Rattle.pc_text.specs.Bytes.{Bytes}
use Rattle.pc_words.specs.Words.{Order}
use Rattle.pc_words.specs.Taken.{AreCommand, Orders}
use Rattle.pc_words.proofs.SpellingLemmas.{one_thing}
use Rattle.pc_app.specs.declared.status.TheConstants.{DONE, FAILED, PAST, REFUSED, MALFORMED, TOO_LONG, USAGE}
use Rattle.pc_app.specs.Tasks.{Task}
use Rattle.pc_app.specs.Table.{task_of, files_of}
use Rattle.pc_app.specs.Answers.{TaskAnswers, Answers}
use Rattle.pc_app.specs.Answers.Answers.{Unknown, Known}
use Rattle.pc_app.specs.Promises.{AreTold, IsAnswered}
use Rattle.pc_app.proofs.InputLemmas.{IsUsual, inputs_usual, inputs_once}
use Rattle.pc_app.proofs.TaskLemmas.{Lawful}
use Rattle.pc_app.proofs.TableLemmas.{lawful}

usual_is_answered : (held : Bytes → Holding) (status : ℕ) (text : Bytes) → IsUsual held status text → IsAnswered status
usual_is_answered held status text is = by is.usual
  where
    by : (status ≡ DONE) ⊎ ((status ≡ FAILED) ⊎ ((status ≡ PAST) ⊎ ((status ≡ REFUSED) ⊎ ((status ≡ MALFORMED) ⊎ (status ≡ TOO_LONG))))) → IsAnswered status
    by h = (omega arith, omega arith, omega arith)

usual_is_known : (held : Bytes → Holding) (status : ℕ) (text : Bytes) → IsUsual held status text → status ≡ USAGE → ⊥
usual_is_known held status text is e = by is.usual
  where
    by : (status ≡ DONE) ⊎ ((status ≡ FAILED) ⊎ ((status ≡ PAST) ⊎ ((status ≡ REFUSED) ⊎ ((status ≡ MALFORMED) ⊎ (status ≡ TOO_LONG))))) → ⊥
    by h = omega arith

module _ (held : Bytes → Holding) (status : ℕ) (text : Bytes) where
  task_usual : (task : Task) → Lawful task → TaskAnswers held task status text → IsUsual held status text
  task_usual task law a = inputs_usual held status text task.inputs task.Says law.decided (λ given says. law.end status (law.ends given status text says)) a

  module _ (words : List Bytes) where
    -- words that are an order are answered as the order
    pub order_answers : (order : Order) → Orders words order → Answers words held status text → TaskAnswers held (task_of order) status text
    order_answers order is (Unknown none s) = absurd (none (order, is))
    order_answers order is (Known other that a) = subst (λ (o : Order). TaskAnswers held (task_of o) status text) (one_thing words order other is that) a

    pub answers_is_answered : Answers words held status text → IsAnswered status
    answers_is_answered (Unknown none s) = (omega arith, omega arith, omega arith)
    answers_is_answered (Known order is a) = usual_is_answered held status text (task_usual (task_of order) (lawful order) a)

    -- the usage is the answer to words that order nothing, and to no others
    pub answers_usage : Answers words held status text → (status ≡ USAGE) ↔ (AreCommand words → ⊥)
    answers_usage (Unknown none s) = (λ e. none, λ o. s)
    answers_usage (Known order is a) = (λ e. absurd (usual_is_known held status text (task_usual (task_of order) (lawful order) a) e), λ o. absurd (o (order, is)))

-- where the files are told, words have one status
module _ (s : ℕ) (t : Bytes) (s' : ℕ) (t' : Bytes) (held : Bytes → Holding) where
  pub order_once : (order : Order) → AreTold held (files_of order) → TaskAnswers held (task_of order) s t → TaskAnswers held (task_of order) s' t' → s ≡ s'
  order_once order told x y =
      let law = lawful order in
      inputs_once s t s' t' held (task_of order).inputs (task_of order).Says law.decided told (λ g h same a b. law.once g h s t s' t' same a b) x y

  pub words_once : (words : List Bytes) → ((order : Order) → Orders words order → AreTold held (files_of order)) → Answers words held s t → Answers words held s' t' → s ≡ s'
  words_once words told (Unknown none e) (Unknown none' e') = e ∙ sym e'
  words_once words told (Unknown none e) (Known order is y) = absurd (none (order, is))
  words_once words told (Known order is x) b = order_once order (told order is) x (order_answers held s' t' words order is b)
