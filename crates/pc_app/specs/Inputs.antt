-- The files that a command reads, one after the other, and what they mean.
use Rattle.std.specs.Prelude.{ℕ, List, [], ◌∷◌}
use Rattle.pc_ports.specs.Outside.{Holding}
use Rattle.pc_text.specs.Bytes.{Bytes}
use Rattle.pc_app.specs.Files.{Kind, OnFile}

-- no file; one, by its kind and name; or two, of which the second's kind depends on what the first means
pub data Inputs : Type 1 where
  NoFile : Inputs
  OneFile : Kind → Bytes → Inputs
  TwoFiles : (first : Kind) → Bytes → (first.Meaning → Kind) → Bytes → Inputs

-- the files that are named, one after the other
abbrev pub names_of : Inputs → List Bytes
names_of NoFile = []
names_of (OneFile kind name) = name ∷ []
names_of (TwoFiles first name second other) = name ∷ other ∷ []

-- what the files mean
abbrev pub Given : Inputs → Type 0
Given NoFile = Unit {0}
Given (OneFile kind name) = kind.Meaning
Given (TwoFiles first name second other) = (m : first.Meaning) × (second m).Meaning

-- files are answered, one after the other, where their meanings are answered so
abbrev pub OnInputs : (Bytes → Holding) → (inputs : Inputs) → (Given inputs → ℕ → Bytes → Type 0) → ℕ → Bytes → Type 0
OnInputs held NoFile A = A tt
OnInputs held (OneFile kind name) A = OnFile kind A (held name)
OnInputs held (TwoFiles first name second other) A = OnFile first (λ m. OnFile (second m) (λ x. A (m, x)) (held other)) (held name)
