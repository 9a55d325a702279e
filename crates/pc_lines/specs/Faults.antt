-- The fault of a text that is none of a format: which lines are wanted, and where the first one stands that is not as it is wanted.
use Rattle.std.specs.Prelude.{ℕ, zero, suc, ◌+◌, if◌then◌else◌, List, [], ◌∷◌, ◌++◌, Option, Some, None}
use Rattle.pc_text.specs.Bytes.{Bytes}
use Rattle.pc_text.specs.Lines.{lines}
use Rattle.pc_text.specs.Words.{Words, words, is_empty}
use Rattle.pc_lines.specs.declared.fault.CertFault.{CertFault}
use Rattle.pc_lines.specs.declared.fault.CertFault.TheVariants as fault
use Rattle.pc_lines.specs.Kinds.{Kind}

-- a format: the kind of each line that may be wanted, and the lines that are wanted behind it, before those that were wanted behind it
-- already
pub record Format (Wanted : Type 0) : Type 0 where
  pub kind : Wanted → Kind
  pub brings : Wanted → Words → List Wanted

-- one for each number, so many from number `n` on
abbrev pub in_order : {Wanted : Type 0} → (ℕ → Wanted) → ℕ → ℕ → List Wanted
in_order wanted n zero = []
in_order wanted n (suc k) = wanted n ∷ in_order wanted (n + 1) k

-- the fault of line `n`, with its words
abbrev pub line_fault : Kind → ℕ → Words → Option CertFault
line_fault kind n ws = if kind.has_form ws then (if kind.keeps_rules ws then None else Some (fault.Number n)) else Some (fault.Form n)

abbrev pub or_else : Option CertFault → Option CertFault → Option CertFault
or_else None more = more
or_else (Some f) more = Some f

-- the fault where no line is left, with what stands behind the last line feed
abbrev pub fault_at_end : {Wanted : Type 0} → List Wanted → ℕ → Bytes → Option CertFault
fault_at_end [] n tail = if is_empty tail then None else Some (fault.Trailing n)
fault_at_end (wanted ∷ more) n tail = Some (fault.Form n)

-- the fault of the first line at fault, from line `n` on, and nothing where these lines are wanted: each of them ends with a line feed,
-- and the tail stands behind the last
abbrev pub fault_from : {Wanted : Type 0} → Format Wanted → List Wanted → ℕ → List Bytes → Bytes → Option CertFault
fault_from format wanted n [] tail = fault_at_end wanted n tail
fault_from format [] n (line ∷ lines) tail = Some (fault.Trailing n)
fault_from format (wanted ∷ more) n (line ∷ lines) tail =
    or_else (line_fault (format.kind wanted) n (words line)) (fault_from format (format.brings wanted (words line) ++ more) (n + 1) lines tail)

abbrev pub all_but_last : List Bytes → List Bytes
all_but_last [] = []
all_but_last (x ∷ []) = []
all_but_last (x ∷ y ∷ zs) = x ∷ all_but_last (y ∷ zs)

abbrev pub last_of : List Bytes → Bytes
last_of [] = []
last_of (x ∷ []) = x
last_of (x ∷ y ∷ zs) = last_of (y ∷ zs)

-- the lines that a line feed ends
abbrev pub ended_lines : Bytes → List Bytes
ended_lines b = all_but_last (lines b)

-- what stands behind the last line feed
abbrev pub tail_of : Bytes → Bytes
tail_of b = last_of (lines b)

-- the fault of a text in which these lines are wanted first, and nothing where it has none
abbrev pub fault_in_text : {Wanted : Type 0} → Format Wanted → List Wanted → Bytes → Option CertFault
fault_in_text format wanted b = fault_from format wanted 1 (ended_lines b) (tail_of b)
