-- A command is answered as the files are that it reads.
use Rattle.std.proofs.Common.{ℕ, ◌≤◌, inl, inr, subst, List, Result, Ok, Err}
use Rattle.pc_ports.specs.Outside.{Holding}
use Rattle.pc_ports.proofs.Appending.{rose_from}
use Rattle.pc_text.specs.Bytes.{Bytes}
use Rattle.pc_words.specs.Words.{Order, IsOrder, IsPlain}
use Rattle.pc_words.specs.Taken.{Orders, IsTakenAs}
use Rattle.pc_app.specs.declared.answer.Answer.{Answer}
use Rattle.pc_app.specs.declared.answer.Stop.{Stop}
use Rattle.pc_app.specs.declared.answer.Stop.TheVariants as stop
use Rattle.pc_app.specs.Files.{Kind, MayMean, IsTooLong, IsUnread, OnFile}
use Rattle.pc_app.specs.Files.OnFile.{IsRefused, IsRead}
use Rattle.pc_app.specs.Inputs.{OneFile, TwoFiles, Given, OnInputs}
use Rattle.pc_app.specs.Causes.{IsLost, AreLost}
use Rattle.pc_app.specs.Table.{task_of}
use Rattle.pc_app.specs.Answers.{Answers, LacksFile}
use Rattle.pc_app.specs.Answers.Answers.{Known}
use Rattle.pc_app.specs.Reading.{Stops, Answered, TaskIs, RestIs, WordsAre}

-- why a call goes no further, for what is made of it
stops_widen : (R S : ℕ → Bytes → Type 0) (L M : Type 0) → ((status : ℕ) (text : Bytes) → R status text → S status text) → (L → M) → (e : Stop) → Stops R L e → Stops S M e
stops_widen R S L M f g (stop.Refused a) h = f a.status a.text h
stops_widen R S L M f g stop.Store h = g h
stops_widen R S L M f g stop.Memory h = tt

answered_widens : (R S : ℕ → Bytes → Type 0) (L M : Type 0) → ((status : ℕ) (text : Bytes) → R status text → S status text) → (L → M) → (r : Result Answer Stop) → Answered R L r → Answered S M r
answered_widens R S L M f g (Ok a) h = f a.status a.text h
answered_widens R S L M f g (Err e) h = stops_widen R S L M f g e h

-- a file whose bytes are not had has no meaning
pub bytes_stop : (kind : Kind) (held : Holding) (L : Type 0) (e : Stop) → Stops (IsTooLong kind.limit kind.long held) L e → Stops (IsUnread kind held) L e
bytes_stop kind held L e h = stops_widen (IsTooLong kind.limit kind.long held) (IsUnread kind held) L L (λ status text long. inl long) (λ l. l) e h

-- a file that has no meaning is answered, whatever is made of meanings
file_stops : (kind : Kind) (A : kind.Meaning → ℕ → Bytes → Type 0) (held : Holding) (L M : Type 0) → (L → M) → (e : Stop) → Stops (IsUnread kind held) L e → Stops (OnFile kind A held) M e
file_stops kind A held L M f e h = stops_widen (IsUnread kind held) (OnFile kind A held) L M (λ status text unread. IsRefused unread) f e h

still_lost : (other : Holding) (before middle now : ℕ) → before ≤ middle → IsLost other middle now → IsLost other before now
still_lost other before middle now le (inl rose) = inl (rose_from before middle now le rose)
still_lost other before middle now le (inr nothing) = inr nothing

-- ---- one file

module _ (kind : Kind) (A : kind.Meaning → ℕ → Bytes → Type 0) (held : Bytes → Holding) (before now : ℕ) (name : Bytes) where
  -- it has no meaning, or is lost
  pub one_stops : (e : Stop) → Stops (IsUnread kind (held name)) (IsLost (held name) before now) e →
      Answered (OnInputs held (OneFile kind name) A) (AreLost held before now (OneFile kind name)) (Err e)
  one_stops e h = file_stops kind A (held name) (IsLost (held name) before now) (IsLost (held name) before now) (λ l. l) e h

-- ---- two files, one after the other

module _ (kind : Kind) (A : kind.Meaning → ℕ → Bytes → Type 0) (held : Holding) (before now : ℕ) where
  -- the second has no meaning, or is lost
  pub rest_stops : (e : Stop) → Stops (IsUnread kind held) (IsLost held before now) e → RestIs kind A held before now (Err e)
  rest_stops e h = record { answered = file_stops kind A held (IsLost held before now) (IsLost held before now) (λ l. l) e h }

  -- it means something, which is answered
  pub rest_goes_on : (m : kind.Meaning) → MayMean kind held m → (a : Answer) → A m a.status a.text → RestIs kind A held before now (Ok a)
  rest_goes_on m is a says = record { answered = IsRead m is says }

module _ (first : Kind) (name : Bytes) (second : first.Meaning → Kind) (other : Bytes) (A : Given (TwoFiles first name second other) → ℕ → Bytes → Type 0) (held : Bytes → Holding) (before : ℕ) where
  -- the first has no meaning, or is lost
  pub two_stop : (now : ℕ) (e : Stop) → Stops (IsUnread first (held name)) (IsLost (held name) before now) e →
      Answered (OnInputs held (TwoFiles first name second other) A) (AreLost held before now (TwoFiles first name second other)) (Err e)
  two_stop now e h =
      file_stops first (λ m. OnFile (second m) (λ x. A (m, x)) (held other)) (held name) (IsLost (held name) before now) (AreLost held before now (TwoFiles first name second other)) (λ lost. inl lost) e h

  -- it means something, and the second is read
  pub two_go_on : (middle now : ℕ) (m : first.Meaning) → before ≤ middle → MayMean first (held name) m → (r : Result Answer Stop) → RestIs (second m) (λ x. A (m, x)) (held other) middle now r →
      Answered (OnInputs held (TwoFiles first name second other) A) (AreLost held before now (TwoFiles first name second other)) r
  two_go_on middle now m le is r h =
      answered_widens (OnFile (second m) (λ x. A (m, x)) (held other)) (OnInputs held (TwoFiles first name second other) A) (IsLost (held other) middle now)
      (AreLost held before now (TwoFiles first name second other)) (λ status text a. IsRead m is a)
      (λ lost. inr (record { meaning = m; meant = is; cause = still_lost (held other) before middle now le lost })) r h.answered

-- ---- words

-- words that are an order are answered as the order
pub words_go_on : (words : List Bytes) (held : Bytes → Holding) (before now : ℕ) (order : Order) → Orders words order →
    (r : Result Answer Stop) → TaskIs held before now (task_of order) r → WordsAre words held before now r
words_go_on words held before now order is r h =
    answered_widens _ (Answers words held) _ (LacksFile words held before now) (λ status text a. Known order is a) (λ l. record { order = order; named = is; lost = l }) r h.answered

-- words in no plain form are answered as the order that they are taken as
pub taken_go_on : (words list : List Bytes) (held : Bytes → Holding) (before now : ℕ) → (IsPlain words → ⊥) → IsTakenAs words list → (r : Result Answer Stop) →
    ((order : Order) → IsOrder list order → TaskIs held before now (task_of order) r) → WordsAre words held before now r
taken_go_on words list held before now none taken r h =
    let order = taken.plain.0 in
    let is = taken.plain.1 in
    let spelled = subst (λ (ws : List Bytes). IsOrder ws order) taken.is_written is in
    words_go_on words held before now order (inr (none, record { accepted = taken.accepted; spelled = spelled })) r (h order is)
