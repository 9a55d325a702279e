-- What the top call promises, by its words, by what the store tells and what the sink tells, and by their counts of faults.
use Rattle.std.specs.Prelude.{◌≡◌, ◌≢◌, ℕ, Option, List, [], ◌∷◌}
use Rattle.pc_ports.specs.Outside.{Holding, Untold, Nothing, Rose, Appended, FrontAppended}
use Rattle.pc_text.specs.Bytes.{Bytes}
use Rattle.pc_words.specs.Words.{Order}
use Rattle.pc_words.specs.Taken.{Orders}
use Rattle.pc_app.specs.declared.status.TheConstants.{STORE_FAILED, SINK_FAILED, NO_MEMORY}
use Rattle.pc_app.specs.Causes.{AreTooLong, AreFaulty, AreMeant}
use Rattle.pc_app.specs.Table.{task_of, files_of}
use Rattle.pc_app.specs.Answers.{Answers, LacksFile}

-- neither a fault outside nor want of memory ended the call
abbrev pub IsAnswered : ℕ → Type 0
IsAnswered status = (status ≢ STORE_FAILED) × (status ≢ SINK_FAILED) × (status ≢ NO_MEMORY)

-- the whole answer to the words was written
pub record HasAnswered (words : List Bytes) (held : Bytes → Holding) (status : ℕ) (old new : Option Bytes) : Type 0 where
  pub text : Bytes
  pub answers : Answers words held status text
  pub written : Appended old new text

-- the writing of an answer to the words was cut off, in the middle of its text
pub record IsCutOff (words : List Bytes) (held : Bytes → Holding) (old new : Option Bytes) (before now : ℕ) : Type 0 where
  pub status : ℕ
  pub text : Bytes
  pub answers : Answers words held status text
  pub front : FrontAppended old new text
  pub cause : Rose before now

-- an answer was written, whole, or in part where the sink failed
pub data IsWritten (answered : ℕ) (text : Bytes) (old new : Option Bytes) (before now status : ℕ) : Type 0 where
  IsWhole : status ≡ answered → Appended old new text → IsWritten answered text old new before now status
  IsFront : status ≡ SINK_FAILED → FrontAppended old new text → Rose before now → IsWritten answered text old new before now status

-- it is told whether the store holds the files that are named, and what
abbrev pub AreTold : (Bytes → Holding) → List Bytes → Type 0
AreTold held [] = Unit {0}
AreTold held (name ∷ names) = (held name ≢ Untold) × AreTold held names

-- no other status answers the words, where the files that they name are told
abbrev pub IsOnlyStatus : List Bytes → (Bytes → Holding) → ℕ → Type 0
IsOnlyStatus words held status =
    (other : ℕ) (text : Bytes) → Answers words held other text → ((order : Order) → Orders words order → AreTold held (files_of order)) → other ≡ status

-- no file that is named is told to be missing
abbrev pub AreThere : (Bytes → Holding) → List Bytes → Type 0
AreThere held [] = Unit {0}
AreThere held (name ∷ names) = (held name ≢ Nothing) × AreThere held names

-- how a call ends
pub data Ends (words : List Bytes) (held : Bytes → Holding) (old new : Option Bytes) (store_before store_now sink_before sink_now status : ℕ) : Type 0 where
  Answered : HasAnswered words held status old new → Ends words held old new store_before store_now sink_before sink_now status
  Unread : status ≡ STORE_FAILED → LacksFile words held store_before store_now → new ≡ old → Ends words held old new store_before store_now sink_before sink_now status
  CutOff : status ≡ SINK_FAILED → IsCutOff words held old new sink_before sink_now → Ends words held old new store_before store_now sink_before sink_now status
  Starved : status ≡ NO_MEMORY → new ≡ old → Ends words held old new store_before store_now sink_before sink_now status

-- ---- causes, by the form of the words

-- more bytes than its limit are held under a name
abbrev pub OrderIsTooLong : (Bytes → Holding) → Order → Type 0
OrderIsTooLong held order = AreTooLong held (task_of order).inputs

-- a file of a kind with this status means nothing
abbrev pub OrderIsFaulty : ℕ → (Bytes → Holding) → Order → Type 0
OrderIsFaulty status held order = AreFaulty status held (task_of order).inputs

-- each file is what it is to be
abbrev pub OrderIsMeant : (Bytes → Holding) → Order → Type 0
OrderIsMeant held order = AreMeant held (task_of order).inputs (λ given. Unit {0})

-- each file is what it is to be, and the command fails, or leaves the range
abbrev pub OrderHasFailed : (Bytes → Holding) → Order → Type 0
OrderHasFailed held order = AreMeant held (task_of order).inputs (task_of order).Fails

abbrev pub OrderIsPast : (Bytes → Holding) → Order → Type 0
OrderIsPast held order = AreMeant held (task_of order).inputs (task_of order).IsPast

-- the statuses of a command that comes to its end
abbrev pub IsOutcome : Order → ℕ → Type 0
IsOutcome order status = (task_of order).Ends status
