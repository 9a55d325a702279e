-- Files by their kinds: what the bytes of a file may mean, and how they are answered where they mean nothing.
use Rattle.std.specs.Prelude.{◌≡◌, ◌<◌, ◌≤◌, ◌⊎◌, ℕ, Option, Some, None, length}
use Rattle.std.proofs.Common.{inl, inr}
use Rattle.pc_ports.specs.Outside.{Holding, Untold, Nothing, Held}
use Rattle.pc_text.specs.Bytes.{Bytes}
use Rattle.pc_app.specs.declared.status.TheConstants.{TOO_LONG}

-- a kind of file
pub record Kind : Type 1 where
  -- the most bytes, for bytes that begin as these do, and the line that tells of more
  pub limit : Bytes → ℕ
  pub long : Bytes
  -- what bytes may mean
  pub Meaning : Type 0
  pub Means : Bytes → Meaning → Type 0
  -- the faults of bytes that mean nothing, their status, and the line of each
  pub Fault : Type 0
  pub Faulty : Bytes → Fault → Type 0
  pub status : ℕ
  pub line : Fault → Bytes

-- the bytes may be what is held, by what is told of it
abbrev pub MayHold : Holding → Bytes → Type 0
MayHold Untold bytes = Unit {0}
MayHold Nothing bytes = ⊥
MayHold (Held held) bytes = bytes ≡ held

-- the file may hold these bytes, which are not too many
pub record HasBytes (limit : ℕ) (held : Holding) (bytes : Bytes) : Type 0 where
  pub holds : MayHold held bytes
  pub short : length bytes ≤ limit

-- the file may hold bytes that mean this
pub record MayMean (kind : Kind) (held : Holding) (m : kind.Meaning) : Type 0 where
  pub bytes : Bytes
  pub has : HasBytes (kind.limit bytes) held bytes
  pub means : kind.Means bytes m

-- a file that may hold too many bytes is answered
pub record IsTooLong (limit : Bytes → ℕ) (long : Bytes) (held : Holding) (status : ℕ) (text : Bytes) : Type 0 where
  pub bytes : Bytes
  pub holds : MayHold held bytes
  pub more : limit bytes < length bytes
  pub status_is : status ≡ TOO_LONG
  pub text_is : text ≡ long

-- a file that may hold bytes with a fault is answered
pub record IsFaulty (kind : Kind) (held : Holding) (status : ℕ) (text : Bytes) : Type 0 where
  pub bytes : Bytes
  pub has : HasBytes (kind.limit bytes) held bytes
  pub fault : kind.Fault
  pub faulty : kind.Faulty bytes fault
  pub status_is : status ≡ kind.status
  pub text_is : text ≡ kind.line fault

-- a file is answered that has no meaning
abbrev pub IsUnread : Kind → Holding → ℕ → Bytes → Type 0
IsUnread kind held status text = IsTooLong kind.limit kind.long held status text ⊎ IsFaulty kind held status text

-- a file is answered, where its meaning is answered so
pub data OnFile (kind : Kind) (A : kind.Meaning → ℕ → Bytes → Type 0) (held : Holding) (status : ℕ) (text : Bytes) : Type 0 where
  IsRefused : IsUnread kind held status text → OnFile kind A held status text
  IsRead : (m : kind.Meaning) → MayMean kind held m → A m status text → OnFile kind A held status text

-- ---- kinds with a further fault

-- bytes with a fault of the kind, or with a meaning that has a fault
abbrev pub FaultyOr : (kind : Kind) (F : Type 0) → (kind.Meaning → Option F) → Bytes → kind.Fault ⊎ F → Type 0
FaultyOr kind F fault bytes (inl f) = kind.Faulty bytes f
FaultyOr kind F fault bytes (inr f) = (m : kind.Meaning) × kind.Means bytes m × (fault m ≡ Some f)

abbrev pub line_or : {E F : Type 0} → (E → Bytes) → (F → Bytes) → E ⊎ F → Bytes
line_or line more (inl f) = line f
line_or line more (inr f) = more f

-- files of a kind, where what they mean may have a fault, with such a line
abbrev pub with_fault : (kind : Kind) (F : Type 0) → (kind.Meaning → Option F) → (F → Bytes) → Kind
with_fault kind F fault more = record {
  limit = kind.limit;
  long = kind.long;
  Meaning = kind.Meaning;
  Means = λ bytes m. kind.Means bytes m × (fault m ≡ None);
  Fault = kind.Fault ⊎ F;
  Faulty = FaultyOr kind F fault;
  status = kind.status;
  line = line_or kind.line more;
}
