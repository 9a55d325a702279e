-- Texts read line by line.
use Rattle.std.specs.Prelude.{◌≡◌, ◌<◌, ◌^◌, length, Bool, ℕ, zero, suc, ◌+◌, ◌-◌, pos, ◌&&◌, if◌then◌else◌, List, [], ◌∷◌, ◌++◌, map, replicate, Option, Some, None, Result, Ok, Err}
use Rattle.pc_rows.specs.declared.proof.Part.{Part}
use Rattle.pc_rows.specs.declared.row.TheConstants.{VARIABLES}
use Rattle.pc_rows.specs.Linear.{Linear}
use Rattle.pc_rows.specs.Evidence.{Proof}
use Rattle.pc_text.specs.Bytes.{Bytes}
use Rattle.pc_text.specs.Digits.{natural_of}
use Rattle.pc_text.specs.Numerals.{integer_of}
use Rattle.pc_text.specs.Lines.{Left}
use Rattle.pc_text.specs.Words.{Words, words, is_empty}
use Rattle.pc_lines.specs.declared.fault.CertFault.{CertFault}
use Rattle.pc_lines.specs.declared.fault.CertFault.TheVariants as fault
use Rattle.pc_lines.specs.Forms.{number_at}
use Rattle.pc_lines.specs.Kinds.{Kind, row, proof}
use Rattle.pc_lines.specs.Faults.{line_fault, ended_lines, tail_of}

-- what is left of a text: the number of the next line, the lines that a line feed ends, and what stands behind the last of these
pub record Unread : Type 0 where
  pub number : ℕ
  pub lines : List Bytes
  pub tail : Bytes

-- the same, by what the lines of the code have left
abbrev pub unread : Left → Unread
unread l = record { number = l.number; lines = ended_lines l.rest; tail = tail_of l.rest }

-- the number is that of the next line, and the lines that are left can be counted on from it
pub record IsPlaced (l : Left) (n : ℕ) : Type 0 where
  pub next : n ≡ l.number
  pub room : l.number + length l.rest < 2 ^ 32

-- a reader gives a value and what is left behind it, or the fault of the first line at fault
abbrev pub Reader : Type 0 → Type 0
Reader A = Unread → Result (A × Unread) CertFault

infixl 10 ◌>>=◌
-- an answer handed on, or its fault
abbrev pub ◌>>=◌ : {A B : Type 0} → Result A CertFault → (A → Result B CertFault) → Result B CertFault
Ok x >>= f = f x
Err e >>= f = Err e

-- the value of a line without a fault
abbrev pub unless_fault : {A : Type 0} → Option CertFault → A → Result A CertFault
unless_fault None x = Ok x
unless_fault (Some f) x = Err f

-- what line `n` says, with its words
abbrev pub line_value : {A : Type 0} → Kind → (Words → A) → ℕ → Words → Result A CertFault
line_value kind value n ws = unless_fault (line_fault kind n ws) (value ws)

abbrev pub take_of : ℕ → List Bytes → Bytes → Result (Bytes × Unread) CertFault
take_of n [] tail = Err (fault.Form n)
take_of n (line ∷ lines) tail = Ok (line, record { number = n + 1; lines = lines; tail = tail })

-- the next line
abbrev pub take_line : Reader Bytes
take_line s = take_of s.number s.lines s.tail

-- the next line, and what it says
abbrev pub read_line : {A : Type 0} → Kind → (Words → A) → Reader A
read_line kind value s = do
  x ← take_line s
  y ← line_value kind value s.number (words x.0)
  Ok (y, x.1)

-- a reader for each number, so many from number `n` on
abbrev pub repeated : {A : Type 0} → (ℕ → Reader A) → ℕ → ℕ → Reader (List A)
repeated r n zero s = Ok ([], s)
repeated r n (suc k) s = do
  x ← r n s
  xs ← repeated r (n + 1) k x.1
  Ok (x.0 ∷ xs.0, xs.1)

-- ---- what lines say

-- a constant and the coefficients of so many variables
abbrev pub row_value : ℕ → Words → Linear
row_value v [] = record { constant = pos 0; coefficients = [] }
row_value v (constant ∷ ws) = record { constant = integer_of constant; coefficients = map integer_of ws ++ replicate (VARIABLES - v) (pos 0) }

abbrev pub parts_value : Words → List Part
parts_value [] = []
parts_value (i ∷ []) = []
parts_value (i ∷ m ∷ ws) = record { index = natural_of i; multiplier = integer_of m } ∷ parts_value ws

abbrev pub proof_value : Words → Proof
proof_value [] = record { goal = pos 0; parts = [] }
proof_value (goal ∷ ws) = record { goal = integer_of goal; parts = parts_value ws }

-- ---- lines that formats share

abbrev pub row_reader : ℕ → Reader Linear
row_reader v = read_line (row v) (row_value v)

abbrev pub proof_reader : ℕ → Reader Proof
proof_reader premises = read_line (proof premises) proof_value

-- a line that tells how many follow it, and these
abbrev pub headed : {A : Type 0} → Kind → Reader A → Reader (List A)
headed kind item s = do
  k ← read_line kind (number_at 2) s
  repeated (λ _. item) 0 k.0 k.1

abbrev pub is_over : Unread → Bool
is_over s = is_empty s.lines && is_empty s.tail

-- what is read, behind which nothing is left
abbrev pub whole : {A : Type 0} → Reader A → Unread → Result A CertFault
whole reader s = do
  x ← reader s
  if is_over x.1 then Ok x.0 else Err (fault.Trailing x.1.number)

-- what is read of a text
abbrev pub read_of : {A : Type 0} → Reader A → Bytes → Result A CertFault
read_of reader b = whole reader (record { number = 1; lines = ended_lines b; tail = tail_of b })
