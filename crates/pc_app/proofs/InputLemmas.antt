-- Files of each shape: the answer to them tells why it came, and what is held gives the answer.
use Rattle.std.proofs.Common.{◌≡◌, ◌≢◌, ◌⊎◌, inl, inr, ℕ, Option, arith}
use Rattle.pc_ports.specs.Outside.{Holding, Nothing, Rose, Appended}
use Rattle.pc_text.specs.Bytes.{Bytes}
use Rattle.pc_app.specs.declared.status.TheConstants.{DONE, FAILED, REFUSED, MALFORMED, TOO_LONG, PAST}
use Rattle.pc_app.specs.Files.{Kind, OnFile}
use Rattle.pc_app.specs.Files.OnFile.{IsRead, IsRefused}
use Rattle.pc_app.specs.Inputs.{Inputs, NoFile, OneFile, TwoFiles, names_of, Given, OnInputs}
use Rattle.pc_app.specs.Causes.{AreTooLong, AreFaulty, AreMeant, IsLost, AreLost}
use Rattle.pc_app.specs.Tasks.{Printed, IsPrinted, OfBytes}
use Rattle.pc_app.specs.Promises.{AreTold, AreThere}
use Rattle.pc_app.proofs.KindLemmas.{IsDecided, AreAlike, alike_self}
use Rattle.pc_app.proofs.CauseLemmas.{SameFile, may_be_there, is_there, may_mean, over_answer, over_cause, meant_answer, meant_cause, read_cause, faulty_answer, faulty_cause, meant_read, alike_means, file_once, file_read, of_nothing, of_bytes}

-- two files whose kinds are decided, and the second's kind is the same whatever the bytes of the first are taken to mean
pub record AreTwoDecided (first : Kind) (second : first.Meaning → Kind) : Type 0 where
  pub decided : IsDecided first
  pub each : (m : first.Meaning) → IsDecided (second m)
  pub alike : (bytes : Bytes) (m n : first.Meaning) → first.Means bytes m → first.Means bytes n → AreAlike (second m) (second n)

abbrev pub AreDecided : Inputs → Type 0
AreDecided NoFile = Unit {0}
AreDecided (OneFile kind name) = IsDecided kind
AreDecided (TwoFiles first name second other) = AreTwoDecided first second

-- what the same files mean
abbrev pub AreSame : (inputs : Inputs) → Given inputs → Given inputs → Type 0
AreSame NoFile g h = Unit {0}
AreSame (OneFile kind name) g h = SameFile kind kind g h
AreSame (TwoFiles first name second other) g h = SameFile first first g.0 h.0 × SameFile (second g.0) (second h.0) g.1 h.1

-- a status with which no file without a meaning is answered
pub record IsEnd (status : ℕ) : Type 0 where
  pub end : (status ≡ DONE) ⊎ ((status ≡ FAILED) ⊎ (status ≡ PAST))

not_long : (status : ℕ) → IsEnd status → status ≢ TOO_LONG
not_long status is = by is.end
  where
    by : (status ≡ DONE) ⊎ ((status ≡ FAILED) ⊎ (status ≡ PAST)) → status ≢ TOO_LONG
    by (inl e) = λ f. omega arith
    by (inr (inl e)) = λ f. omega arith
    by (inr (inr e)) = λ f. omega arith

not_of_kind : (status : ℕ) (kind : Kind) → IsEnd status → IsDecided kind → status ≢ kind.status
not_of_kind status kind is decided = by is.end decided.status
  where
    by : (status ≡ DONE) ⊎ ((status ≡ FAILED) ⊎ (status ≡ PAST)) → (kind.status ≡ REFUSED) ⊎ (kind.status ≡ MALFORMED) → status ≢ kind.status
    by (inl e) (inl k) = λ f. omega arith
    by (inl e) (inr k) = λ f. omega arith
    by (inr (inl e)) (inl k) = λ f. omega arith
    by (inr (inl e)) (inr k) = λ f. omega arith
    by (inr (inr e)) (inl k) = λ f. omega arith
    by (inr (inr e)) (inr k) = λ f. omega arith

-- ---- what is held gives the answer

module _ (held : Bytes → Holding) where
  pub too_long_answer : (inputs : Inputs) (A : Given inputs → ℕ → Bytes → Type 0) → AreTooLong held inputs → (text : Bytes) × OnInputs held inputs A TOO_LONG text
  too_long_answer NoFile A h = absurd h
  too_long_answer (OneFile kind name) A h = (kind.long, over_answer kind A (held name) h)
  too_long_answer (TwoFiles first name second other) A (inl h) = (first.long, over_answer first (λ m. OnFile (second m) (λ x. A (m, x)) (held other)) (held name) h)
  too_long_answer (TwoFiles first name second other) A (inr b) =
      let kind = second b.meaning in
      (kind.long, IsRead b.meaning b.meant (over_answer kind (λ x. A (b.meaning, x)) (held other) b.cause))

  pub faulty_answers : (inputs : Inputs) (A : Given inputs → ℕ → Bytes → Type 0) → AreDecided inputs → (status : ℕ) → AreFaulty status held inputs → (text : Bytes) × OnInputs held inputs A status text
  faulty_answers NoFile A decided status h = absurd h
  faulty_answers (OneFile kind name) A decided status h = faulty_answer kind A (held name) decided status h
  faulty_answers (TwoFiles first name second other) A decided status (inl h) = faulty_answer first (λ m. OnFile (second m) (λ x. A (m, x)) (held other)) (held name) decided.decided status h
  faulty_answers (TwoFiles first name second other) A decided status (inr b) =
      let x = faulty_answer (second b.meaning) (λ x. A (b.meaning, x)) (held other) (decided.each b.meaning) status b.cause in
      (x.0, IsRead b.meaning b.meant x.1)

  -- what is answered of what the files mean
  pub meant_answers : (inputs : Inputs) (A : Given inputs → ℕ → Bytes → Type 0) (P : Given inputs → Type 0) (status : ℕ) → ((given : Given inputs) → P given → (text : Bytes) × A given status text) →
      AreMeant held inputs P → (text : Bytes) × OnInputs held inputs A status text
  meant_answers NoFile A P status f h = f tt h
  meant_answers (OneFile kind name) A P status f h = meant_answer kind A (held name) P status f h
  meant_answers (TwoFiles first name second other) A P status f b =
      let x = meant_answer (second b.meaning) (λ x. A (b.meaning, x)) (held other) (λ x. P (b.meaning, x)) status (λ x h. f (b.meaning, x) h) b.cause in
      (x.0, IsRead b.meaning b.meant x.1)

-- ---- the answer tells what is held

only_left : {P Q : Type 0} → (Q → ⊥) → P ⊎ Q → P
only_left never (inl p) = p
only_left never (inr q) = absurd (never q)

module _ (held : Bytes → Holding) (status : ℕ) (text : Bytes) where
  -- what the files mean is not answered so
  abbrev Never : (inputs : Inputs) → (Given inputs → ℕ → Bytes → Type 0) → Type 0
  Never inputs A = (given : Given inputs) → A given status text → ⊥

  pub too_long_cause : (inputs : Inputs) (A : Given inputs → ℕ → Bytes → Type 0) → AreDecided inputs → Never inputs A → AreTold held (names_of inputs) → status ≡ TOO_LONG →
      OnInputs held inputs A status text → AreTooLong held inputs
  too_long_cause NoFile A decided never told e a = absurd (never tt a)
  too_long_cause (OneFile kind name) A decided never told e a = only_left (λ x. never x.0 x.2) (over_cause kind A (held name) decided status text told.0 e a)
  too_long_cause (TwoFiles first name second other) A decided never told e a =
      elim (over_cause first (λ m. OnFile (second m) (λ x. A (m, x)) (held other)) (held name) decided.decided status text told.0 e a) [
        | inl h ↦ inl h
        | inr x ↦ inr (record {
          meaning = x.0;
          meant = x.1;
          cause = only_left (λ y. never (x.0, y.0) y.2) (over_cause (second x.0) (λ y. A (x.0, y)) (held other) (decided.each x.0) status text told.1.0 e x.2);
        })
      ]

  pub faulty_causes : (inputs : Inputs) (A : Given inputs → ℕ → Bytes → Type 0) → AreDecided inputs → Never inputs A → AreTold held (names_of inputs) → status ≢ TOO_LONG →
      OnInputs held inputs A status text → AreFaulty status held inputs
  faulty_causes NoFile A decided never told e a = absurd (never tt a)
  faulty_causes (OneFile kind name) A decided never told e a = only_left (λ x. never x.0 x.2) (faulty_cause kind A (held name) decided status text told.0 e a)
  faulty_causes (TwoFiles first name second other) A decided never told e a =
      elim (faulty_cause first (λ m. OnFile (second m) (λ x. A (m, x)) (held other)) (held name) decided.decided status text told.0 e a) [
        | inl h ↦ inl h
        | inr x ↦ inr (record {
          meaning = x.0;
          meant = x.1;
          cause = only_left (λ y. never (x.0, y.0) y.2) (faulty_cause (second x.0) (λ y. A (x.0, y)) (held other) (decided.each x.0) status text told.1.0 e x.2);
        })
      ]

  -- an answer with a status of those that are read is of what all files mean
  pub meant_causes : (inputs : Inputs) (A : Given inputs → ℕ → Bytes → Type 0) (P : Given inputs → Type 0) → AreDecided inputs → IsEnd status → ((given : Given inputs) → A given status text → P given) →
      AreTold held (names_of inputs) → OnInputs held inputs A status text → AreMeant held inputs P
  meant_causes NoFile A P decided end f told a = f tt a
  meant_causes (OneFile kind name) A P decided end f told a =
      meant_cause kind A (held name) P status text told.0 (not_long status end) (not_of_kind status kind end decided) f a
  meant_causes (TwoFiles first name second other) A P decided end f told a =
      let x = read_cause first (λ m. OnFile (second m) (λ x. A (m, x)) (held other)) (held name) status text (not_long status end) (not_of_kind status first end decided.decided) a in
      record {
        meaning = x.0;
        meant = x.1;
        cause = meant_cause (second x.0) (λ y. A (x.0, y)) (held other) (λ y. P (x.0, y)) status text told.1.0 (not_long status end) (not_of_kind status (second x.0) end (decided.each x.0))
            (λ y. f (x.0, y)) x.2;
      }

  -- where each file is what it is to be, all of them are read
  pub outcome : {E : Type 0} → (inputs : Inputs) (A : Given inputs → ℕ → Bytes → Type 0) (P : Given inputs → Type 0) → AreDecided inputs → ((given : Given inputs) → A given status text → E) →
      AreTold held (names_of inputs) → AreMeant held inputs P → OnInputs held inputs A status text → E
  outcome NoFile A P decided ends told h a = ends tt a
  outcome (OneFile kind name) A P decided ends told h a =
      let x = may_mean kind P (held name) h in
      let y = meant_read kind A (held name) decided status text told.0 x.0 x.1 a in
      ends y.0 y.2
  outcome (TwoFiles first name second other) A P decided ends told h a =
      let y = meant_read first (λ m. OnFile (second m) (λ x. A (m, x)) (held other)) (held name) decided.decided status text told.0 h.meaning h.meant a in
      let x = may_mean (second h.meaning) (λ x. P (h.meaning, x)) (held other) h.cause in
      let alike = decided.alike y.1.bytes h.meaning y.0 y.1.left y.1.right in
      let moved = alike_means (second h.meaning) (second y.0) (held other) alike x.0 x.1 in
      let z = meant_read (second y.0) (λ x. A (y.0, x)) (held other) (decided.each y.0) status text told.1.0 moved.0 moved.1 y.2 in
      ends (y.0, z.0) z.2

  -- the statuses with which files are answered
  pub record IsUsual : Type 0 where
    pub usual : (status ≡ DONE) ⊎ ((status ≡ FAILED) ⊎ ((status ≡ PAST) ⊎ ((status ≡ REFUSED) ⊎ ((status ≡ MALFORMED) ⊎ (status ≡ TOO_LONG)))))

  usual_end : IsEnd status → IsUsual
  usual_end is = by is.end
    where
      by : (status ≡ DONE) ⊎ ((status ≡ FAILED) ⊎ (status ≡ PAST)) → IsUsual
      by (inl e) = record { usual = inl e }
      by (inr (inl e)) = record { usual = inr (inl e) }
      by (inr (inr e)) = record { usual = inr (inr (inl e)) }

  file_usual : (kind : Kind) (A : kind.Meaning → ℕ → Bytes → Type 0) (name : Bytes) → IsDecided kind → ((m : kind.Meaning) → A m status text → IsUsual) → OnFile kind A (held name) status text → IsUsual
  file_usual kind A name decided f (IsRefused (inl long)) = record { usual = inr (inr (inr (inr (inr long.status_is)))) }
  file_usual kind A name decided f (IsRefused (inr faulty)) = by decided.status
    where
      by : (kind.status ≡ REFUSED) ⊎ (kind.status ≡ MALFORMED) → IsUsual
      by (inl e) = let s = faulty.status_is in record { usual = inr (inr (inr (inl (omega arith)))) }
      by (inr e) = let s = faulty.status_is in record { usual = inr (inr (inr (inr (inl (omega arith))))) }
  file_usual kind A name decided f (IsRead m is a) = f m a

  pub inputs_usual : (inputs : Inputs) (A : Given inputs → ℕ → Bytes → Type 0) → AreDecided inputs → ((given : Given inputs) → A given status text → IsEnd status) → OnInputs held inputs A status text → IsUsual
  inputs_usual NoFile A decided ends a = usual_end (ends tt a)
  inputs_usual (OneFile kind name) A decided ends a = file_usual kind A name decided (λ m b. usual_end (ends m b)) a
  inputs_usual (TwoFiles first name second other) A decided ends a =
      file_usual first (λ m. OnFile (second m) (λ x. A (m, x)) (held other)) name decided.decided
      (λ m b. file_usual (second m) (λ x. A (m, x)) other (decided.each m) (λ x r. usual_end (ends (m, x) r)) b) a

  -- what was written, where all files are read
  pub printed : (inputs : Inputs) (A : Given inputs → ℕ → Bytes → Type 0) (old new : Option Bytes) → AreDecided inputs → IsEnd status → Appended old new text →
      OnInputs held inputs A status text → IsPrinted inputs (λ given text. A given status text) held old new
  printed NoFile A old new decided end written a = record { text = text; says = a; written = written }
  printed (OneFile kind name) A old new decided end written a =
      of_bytes (λ bytes. (m : kind.Meaning) × kind.Means bytes m × Printed (λ text. A m status text) old new) (held name)
      (λ bytes e.
      let x = file_read kind A (held name) bytes status text e (not_long status end) (not_of_kind status kind end decided) a in
      (x.0, x.1, record { text = text; says = x.2; written = written }))
      (λ e. of_nothing kind A (held name) status text e a)
  printed (TwoFiles first name second other) A old new decided end written a =
      let Rest : first.Meaning → ℕ → Bytes → Type 0 = λ m. OnFile (second m) (λ x. A (m, x)) (held other) in
      of_bytes
      (λ bytes. OfBytes (λ more. (m : first.Meaning) × first.Means bytes m × ((x : (second m).Meaning) × (second m).Means more x × Printed (λ text. A (m, x) status text) old new)) (held other))
      (held name)
      (λ bytes e.
      let x = file_read first Rest (held name) bytes status text e (not_long status end) (not_of_kind status first end decided.decided) a in
      of_bytes (λ more. (m : first.Meaning) × first.Means bytes m × ((x : (second m).Meaning) × (second m).Means more x × Printed (λ text. A (m, x) status text) old new)) (held other)
      (λ more e'.
      let y = file_read (second x.0) (λ x'. A (x.0, x')) (held other) more status text e' (not_long status end) (not_of_kind status (second x.0) end (decided.each x.0)) x.2 in
      (x.0, x.1, (y.0, y.1, record { text = text; says = y.2; written = written })))
      (λ e'. of_nothing (second x.0) (λ x'. A (x.0, x')) (held other) status text e' x.2))
      (λ e. of_nothing first Rest (held name) status text e a)

-- two answers to the same files have one status
module _ (s : ℕ) (t : Bytes) (s' : ℕ) (t' : Bytes) where
  pub inputs_once : (held : Bytes → Holding) (inputs : Inputs) (A : Given inputs → ℕ → Bytes → Type 0) → AreDecided inputs → AreTold held (names_of inputs) →
      ((g h : Given inputs) → AreSame inputs g h → A g s t → A h s' t' → s ≡ s') → OnInputs held inputs A s t → OnInputs held inputs A s' t' → s ≡ s'
  inputs_once held NoFile A decided told one x y = one tt tt tt x y
  inputs_once held (OneFile kind name) A decided told one x y = file_once s t s' t' kind kind decided decided (alike_self kind) A A (held name) told.0 one x y
  inputs_once held (TwoFiles first name second other) A decided told one x y =
      let Rest : first.Meaning → ℕ → Bytes → Type 0 = λ m. OnFile (second m) (λ x. A (m, x)) (held other) in
      file_once s t s' t' first first decided.decided decided.decided (alike_self first) Rest Rest (held name) told.0
      (λ m n same a b.
      file_once s t s' t' (second m) (second n) (decided.each m) (decided.each n) (decided.alike same.bytes m n same.left same.right) (λ x. A (m, x)) (λ y. A (n, y)) (held other) told.1.0
      (λ x y same' k l. one (m, x) (n, y) (same, same') k l) a b)
      x y

-- files that mean something are there
pub are_there : (held : Bytes → Holding) (inputs : Inputs) (P : Given inputs → Type 0) → AreMeant held inputs P → AreThere held (names_of inputs)
are_there held NoFile P h = tt
are_there held (OneFile kind name) P h = (is_there _ (held name) h, tt)
are_there held (TwoFiles first name second other) P h = (may_be_there (held name) h.meant.bytes h.meant.has.holds, (is_there _ (held other) h.cause, tt))

-- no file is lost that is there, where the count of faults did not rise
module _ (held : Bytes → Holding) (before now : ℕ) (kept : Rose before now → ⊥) where
  not_lost : (name : Bytes) → (held name ≡ Nothing → ⊥) → IsLost (held name) before now → ⊥
  not_lost name there (inl rose) = kept rose
  not_lost name there (inr nothing) = there nothing

  pub none_lost : (inputs : Inputs) → AreThere held (names_of inputs) → AreLost held before now inputs → ⊥
  none_lost NoFile there lost = absurd lost
  none_lost (OneFile kind name) there lost = not_lost name there.0 lost
  none_lost (TwoFiles first name second other) there (inl lost) = not_lost name there.0 lost
  none_lost (TwoFiles first name second other) there (inr behind) = not_lost other there.1.0 behind.cause
