-- Why files are answered by the statuses of files that mean nothing, and why they are not answered: by what is held under their names.
use Rattle.std.specs.Prelude.{◌≡◌, ◌⊎◌, ◌<◌, ◌≤◌, ℕ, length}
use Rattle.pc_ports.specs.Outside.{Holding, Untold, Nothing, Held, Rose}
use Rattle.pc_text.specs.Bytes.{Bytes}
use Rattle.pc_app.specs.Files.{Kind, MayMean}
use Rattle.pc_app.specs.Inputs.{Inputs, NoFile, OneFile, TwoFiles, Given}

-- what holds of the bytes that are held
abbrev pub IsHeld : (Bytes → Type 0) → Holding → Type 0
IsHeld P Untold = ⊥
IsHeld P Nothing = ⊥
IsHeld P (Held bytes) = P bytes

-- the file holds more bytes than its limit
abbrev pub IsOver : Kind → Holding → Type 0
IsOver kind held = IsHeld (λ bytes. kind.limit bytes < length bytes) held

-- the file holds bytes, no more than its limit, that mean nothing
abbrev pub IsMeaningless : Kind → Holding → Type 0
IsMeaningless kind held = IsHeld (λ bytes. (length bytes ≤ kind.limit bytes) × ((m : kind.Meaning) → kind.Means bytes m → ⊥)) held

-- the file holds bytes, no more than its limit, that mean something of which this holds
abbrev pub IsMeant : (kind : Kind) → (kind.Meaning → Type 0) → Holding → Type 0
IsMeant kind P held = IsHeld (λ bytes. (length bytes ≤ kind.limit bytes) × ((m : kind.Meaning) × kind.Means bytes m × P m)) held

-- a first file may hold bytes, no more than its limit, that mean something, of which this holds
pub record Behind (kind : Kind) (held : Holding) (P : kind.Meaning → Type 0) : Type 0 where
  pub meaning : kind.Meaning
  pub meant : MayMean kind held meaning
  pub cause : P meaning

-- more bytes than its limit are held under a name, of which the second counts only behind a first file that means something
abbrev pub AreTooLong : (Bytes → Holding) → Inputs → Type 0
AreTooLong held NoFile = ⊥
AreTooLong held (OneFile kind name) = IsOver kind (held name)
AreTooLong held (TwoFiles first name second other) = IsOver first (held name) ⊎ Behind first (held name) (λ m. IsOver (second m) (held other))

-- the file means nothing, and this is the status of its kind
abbrev pub HasFault : ℕ → Kind → Holding → Type 0
HasFault status kind held = (kind.status ≡ status) × IsMeaningless kind held

-- a file with this status means nothing
abbrev pub AreFaulty : ℕ → (Bytes → Holding) → Inputs → Type 0
AreFaulty status held NoFile = ⊥
AreFaulty status held (OneFile kind name) = HasFault status kind (held name)
AreFaulty status held (TwoFiles first name second other) =
    HasFault status first (held name) ⊎ Behind first (held name) (λ m. HasFault status (second m) (held other))

-- each file is what it is to be, and this holds of what they mean
abbrev pub AreMeant : (Bytes → Holding) → (inputs : Inputs) → (Given inputs → Type 0) → Type 0
AreMeant held NoFile P = P tt
AreMeant held (OneFile kind name) P = IsMeant kind P (held name)
AreMeant held (TwoFiles first name second other) P = Behind first (held name) (λ m. IsMeant (second m) (λ x. P (m, x)) (held other))

-- the reading of a file failed, or the store tells that it lacks the file
abbrev pub IsLost : Holding → ℕ → ℕ → Type 0
IsLost held before now = Rose before now ⊎ (held ≡ Nothing)

-- files are read one after the other, and one of them is lost: a second file counts only behind a first one that may mean something
abbrev pub AreLost : (Bytes → Holding) → ℕ → ℕ → Inputs → Type 0
AreLost held before now NoFile = ⊥
AreLost held before now (OneFile kind name) = IsLost (held name) before now
AreLost held before now (TwoFiles first name second other) =
    IsLost (held name) before now ⊎ Behind first (held name) (λ m. IsLost (held other) before now)
