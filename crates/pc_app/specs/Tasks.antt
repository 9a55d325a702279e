-- What a command asks and how it answers: one record for all commands.
use Rattle.std.specs.Prelude.{◌≡◌, ℕ, Option}
use Rattle.pc_ports.specs.Outside.{Holding, Untold, Nothing, Held, Appended}
use Rattle.pc_text.specs.Bytes.{Bytes}
use Rattle.pc_app.specs.declared.status.TheConstants.{DONE}
use Rattle.pc_app.specs.Inputs.{Inputs, NoFile, OneFile, TwoFiles, Given}

-- what a command does
pub record Task : Type 1 where
  -- the files that it reads
  pub inputs : Inputs
  -- with which status and text it answers what they mean
  pub Says : Given inputs → ℕ → Bytes → Type 0
  -- the statuses of such answers
  pub Ends : ℕ → Type 0
  -- when it fails, and when it leaves the range, by what the files mean
  pub Fails : Given inputs → Type 0
  pub IsPast : Given inputs → Type 0

-- a command that is done whatever its files mean, with such a text
abbrev pub plain : (inputs : Inputs) → (Given inputs → Bytes → Type 0) → Task
plain inputs Prints = record {
  inputs = inputs;
  Says = λ given status text. (status ≡ DONE) × Prints given text;
  Ends = λ status. status ≡ DONE;
  Fails = λ given. ⊥;
  IsPast = λ given. ⊥;
}

-- a text of which this holds was written whole
pub record Printed (P : Bytes → Type 0) (old new : Option Bytes) : Type 0 where
  pub text : Bytes
  pub says : P text
  pub written : Appended old new text

-- a promise on the bytes that are held, where that is told
abbrev pub OfBytes : (Bytes → Type 0) → Holding → Type 0
OfBytes P Untold = Unit {0}
OfBytes P Nothing = ⊥
OfBytes P (Held bytes) = P bytes

-- the bytes of the files mean something, which was answered so, and the text was written
abbrev pub IsPrinted : (inputs : Inputs) → (Given inputs → Bytes → Type 0) → (Bytes → Holding) → Option Bytes → Option Bytes → Type 0
IsPrinted NoFile A held old new = Printed (A tt) old new
IsPrinted (OneFile kind name) A held old new =
    OfBytes (λ bytes. (m : kind.Meaning) × kind.Means bytes m × Printed (A m) old new) (held name)
IsPrinted (TwoFiles first name second other) A held old new =
    OfBytes (λ bytes. OfBytes (λ more. (m : first.Meaning) × first.Means bytes m × ((x : (second m).Meaning) × (second m).Means more x × Printed (A (m, x)) old new))
    (held other)) (held name)

-- what a command promises that ended with this status, by what the store held and by what was written
abbrev pub Keeps : Task → (Bytes → Holding) → ℕ → Option Bytes → Option Bytes → Type 0
Keeps task held status old new = IsPrinted task.inputs (λ given text. task.Says given status text) held old new
