-- Answers that may want memory.
use Rattle.std.specs.Prelude.{◌≡◌, ◌⊎◌, ℕ, true, false, Option, Some, None, Result, Ok, Err}
use Rattle.std.specs.Borrow.{Bor}
use Rattle.pc_text.specs.Bytes.{Bytes}
use Rattle.pc_lines.specs.declared.fault.CertFault.{CertFault}
use Rattle.pc_lines.specs.declared.fault.CertFault.TheVariants as fault
use Rattle.pc_lines.specs.Readers.{Unread, is_over}

-- what holds of a fault other than want of memory
abbrev pub Unless : CertFault → Type 0 → Type 0
Unless fault.NoMemory P = Unit {0}
Unless (fault.Form n) P = P
Unless (fault.Number n) P = P
Unless (fault.Trailing n) P = P

-- the call gives this answer, unless memory is wanting
abbrev pub Gives : {A : Type 0} → Result A CertFault → Result A CertFault → Type 0
Gives answer (Ok x) = answer ≡ Ok x
Gives answer (Err e) = Unless e (answer ≡ Err e)

-- the call gives this answer and leaves what the answer leaves, unless memory is wanting
abbrev pub Reads : {A S : Type 0} → Result (A × S) CertFault → Result A CertFault → S → Type 0
Reads answer (Ok x) left = answer ≡ Ok (x, left)
Reads answer (Err e) left = Unless e (answer ≡ Err e)

-- the call gives the line that the answer gives, with its number, unless memory is wanting
abbrev pub ReadsLine : Result (Bytes × Unread) CertFault → ℕ → Result (ℕ × Bor Bytes) CertFault → Unread → Type 0
ReadsLine answer n (Ok x) left = (answer ≡ Ok (x.1.now, left)) × (x.0 ≡ n)
ReadsLine answer n (Err e) left = answer ≡ Err e

-- the call finds that nothing is left, or the fault that something is
abbrev pub Ends : Unread → Result (Unit {0}) CertFault → Type 0
Ends left (Ok u) = is_over left ≡ true
Ends left (Err e) = (is_over left ≡ false) × (e ≡ fault.Trailing left.number)

-- the answer is right: the bytes are the text of the value, or their fault is this one
abbrev pub MeansBy : {A : Type 0} → (Bytes → A → Type 0) → (Bytes → Option CertFault) → Bytes → Result A CertFault → Type 0
MeansBy IsText fault_of b (Ok x) = IsText b x
MeansBy IsText fault_of b (Err e) = Unless e (fault_of b ≡ Some e)

-- no two values have one text
abbrev pub TextsDetermine : {A : Type 0} → (Bytes → A → Type 0) → Type 0
TextsDetermine {A} IsText = (b : Bytes) (x y : A) → IsText b x → IsText b y → x ≡ y

-- a text is that of a value, without a fault, or that of none, with one
abbrev pub HaveOneAnswer : {A : Type 0} → (Bytes → A → Type 0) → (Bytes → Option CertFault) → Type 0
HaveOneAnswer {A} IsText fault_of =
    (b : Bytes) → ((x : A) × IsText b x × (fault_of b ≡ None)) ⊎ ((e : CertFault) × (fault_of b ≡ Some e) × ((x : A) → IsText b x → ⊥))
