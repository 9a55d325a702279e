-- A reader finds the fault of the first line that is not as it is wanted.
use Rattle.std.proofs.Common.{◌≡◌, ◌∙◌, refl, ap, sym, ℕ, zero, suc, ◌+◌, List, [], ◌∷◌, ◌++◌, append_assoc, replicate, Bool, true, false, cond, Option, Some, None, Result, Ok, Err}
use Rattle.std.specs.Prelude.{◌&&◌}
use Rattle.std.proofs.lemmas.List.{append-nil}
use Rattle.pc_text.specs.Bytes.{Bytes}
use Rattle.pc_lines.specs.declared.fault.CertFault.{CertFault}
use Rattle.pc_lines.specs.declared.fault.CertFault.TheVariants as fault
use Rattle.pc_text.specs.Words.{Words, words, is_empty}
use Rattle.pc_lines.specs.Forms.{number_at}
use Rattle.pc_lines.specs.Faults.{Format, in_order, line_fault, or_else, fault_from}
use Rattle.pc_lines.specs.Readers.{◌>>=◌, Unread, Reader, unless_fault, read_line, repeated, headed, is_over, whole}
use Rattle.pc_lines.proofs.LineReading.{give}
use Rattle.pc_lines.proofs.Following.{bound, followed}
use Rattle.pc_lines.proofs.EndedLines.{unread_of}

-- the fault that was found, or that of what is left
abbrev pub or_left : {A : Type 0} → Result (A × Unread) CertFault → (A → Unread → Option CertFault) → Option CertFault
or_left (Ok x) f = f x.0 x.1
or_left (Err e) f = Some e

pub or_left_then : {A B : Type 0} (r : Result (A × Unread) CertFault) (g : A × Unread → Result (B × Unread) CertFault) (f : B → Unread → Option CertFault) →
    or_left (r >>= g) f ≡ or_left r (λ x left. or_left (g (x, left)) f)
or_left_then (Ok x) g f = refl
or_left_then (Err e) g f = refl

pub or_left_same : {A : Type 0} (r : Result (A × Unread) CertFault) (f g : A → Unread → Option CertFault) → ((x : A) (left : Unread) → r ≡ Ok (x, left) → f x left ≡ g x left) → or_left r f ≡ or_left r g
or_left_same (Ok x) f g e = e x.0 x.1 refl
or_left_same (Err e) f g h = refl

-- the fault of what is left
abbrev pub fault_in : {Wanted : Type 0} → Format Wanted → List Wanted → Unread → Option CertFault
fault_in format wanted s = fault_from format wanted s.number s.lines s.tail

-- a reader reads what is wanted, which brings further lines by what it says; or it finds its fault
abbrev pub Brings : {A Wanted : Type 0} → Format Wanted → Reader A → List Wanted → (A → List Wanted) → Type 0
Brings {Wanted = Wanted} format r wanted wants =
    (more : List Wanted) (s : Unread) → fault_in format (wanted ++ more) s ≡ or_left (r s) (λ x left. fault_in format (wants x ++ more) left)

-- a reader reads what is wanted, or finds its fault
abbrev pub FindsFault : {A Wanted : Type 0} → Format Wanted → Reader A → List Wanted → Type 0
FindsFault format r wanted = Brings format r wanted (λ x. [])

-- ---- a line

line_by : {A : Type 0} (f : Option CertFault) (x : A) (left : Unread) (g : A → Unread → Option CertFault) → or_else f (g x left) ≡ or_left (unless_fault f x >>= give left) g
line_by None x left g = refl
line_by (Some e) x left g = refl

same_wanted : {Wanted : Type 0} (w : Wanted) (i k : ℕ) → replicate k w ≡ in_order (λ _. w) i k
same_wanted w i zero = refl
same_wanted w i (suc k) = ap (λ ws. w ∷ ws) (same_wanted w (i + 1) k)

module _ {Wanted : Type 0} (format : Format Wanted) where
  -- a line that brings further ones
  pub line_brings : (A : Type 0) (wanted : Wanted) (value : Words → A) (wants : A → List Wanted) → ((ws : Words) → format.brings wanted ws ≡ wants (value ws)) →
      Brings format (read_line (format.kind wanted) value) (wanted ∷ []) wants
  line_brings A wanted value wants is = λ more s. at more s.number s.lines s.tail
    where
      at : (more : List Wanted) (n : ℕ) (lines : List Bytes) (tail : Bytes) →
          fault_from format (wanted ∷ more) n lines tail ≡ or_left (read_line (format.kind wanted) value (unread_of n lines tail)) (λ x left. fault_in format (wants x ++ more) left)
      at more n [] tail = refl
      at more n (line ∷ lines) tail =
          ap (λ ws. or_else (line_fault (format.kind wanted) n (words line)) (fault_from format (ws ++ more) (n + 1) lines tail)) (is (words line))
          ∙ line_by (line_fault (format.kind wanted) n (words line)) (value (words line)) (unread_of (n + 1) lines tail) (λ x left. fault_in format (wants x ++ more) left)

  -- what is wanted behind a reader
  pub first_finds : (A : Type 0) (r : Reader A) (wanted others : List Wanted) → FindsFault format r wanted → Brings format r (wanted ++ others) (λ x. others)
  first_finds A r wanted others finds = λ more s. ap (λ ws. fault_in format ws s) (append_assoc wanted others more) ∙ finds (others ++ more) s

  -- ---- a reader behind a reader

  module _ (A B : Type 0) (r : Reader A) (good : A → Type 0) (told : (s left : Unread) (x : A) → r s ≡ Ok (x, left) → good x) (rest : A → Reader B) (wanted : List Wanted) (wants : A → List Wanted)
      (one : Brings format r wanted wants) (two : (x : A) → good x → FindsFault format (rest x) (wants x)) where
    pub bound_finds : FindsFault format (bound r rest) wanted
    bound_finds = λ more s.
        one more s
        ∙ or_left_same (r s) (λ x left. fault_in format (wants x ++ more) left) (λ x left. or_left (rest x left) (λ y left. fault_in format more left)) (λ x left e. two x (told s left x e) more left)
        ∙ sym (or_left_then (r s) (λ x. rest x.0 x.1) (λ y left. fault_in format more left))

    pub followed_finds : (C : Type 0) (make : A → B → C) → FindsFault format (followed r rest make) wanted
    followed_finds C make = λ more s.
        bound_finds more s
        ∙ or_left_then (r s) (λ x. rest x.0 x.1) (λ y left. fault_in format more left)
        ∙ or_left_same (r s) (λ x left. or_left (rest x left) (λ y left. fault_in format more left)) (λ x left. or_left (rest x left >>= (λ y. give y.1 (make x y.0))) (λ z left. fault_in format more left))
        (λ x left e. sym (or_left_then (rest x left) (λ y. give y.1 (make x y.0)) (λ z left. fault_in format more left)))
        ∙ sym (or_left_then (r s) (λ x. rest x.0 x.1 >>= (λ y. give y.1 (make x.0 y.0))) (λ z left. fault_in format more left))

  -- ---- lines that are repeated

  pub repeated_finds : (A : Type 0) (r : ℕ → Reader A) (wanted : ℕ → Wanted) → ((i : ℕ) → FindsFault format (r i) (wanted i ∷ [])) → (i k : ℕ) → FindsFault format (repeated r i k) (in_order wanted i k)
  repeated_finds A r wanted one i zero = λ more s. refl
  repeated_finds A r wanted one i (suc k) =
      followed_finds A (List A) (r i) (λ x. Unit {0}) (λ s left x e. tt) (λ x. repeated r (i + 1) k) (in_order wanted i (suc k)) (λ x. in_order wanted (i + 1) k)
      (first_finds A (r i) (wanted i ∷ []) (in_order wanted (i + 1) k) (one i)) (λ x h. repeated_finds A r wanted one (i + 1) k) (List A) (λ x xs. x ∷ xs)

  -- a count, and then so many lines
  pub headed_finds : (A : Type 0) (head item : Wanted) (r : Reader A) → ((ws : Words) → format.brings head ws ≡ replicate (number_at 2 ws) item) → FindsFault format r (item ∷ []) →
      FindsFault format (headed (format.kind head) r) (head ∷ [])
  headed_finds A head item r brought one =
      bound_finds ℕ (List A) (read_line (format.kind head) (number_at 2)) (λ k. Unit {0}) (λ s left k e. tt) (λ k. repeated (λ _. r) 0 k) (head ∷ []) (in_order (λ _. item) 0)
      (line_brings ℕ head (number_at 2) (in_order (λ _. item) 0) (λ ws. brought ws ∙ same_wanted item 0 (number_at 2 ws))) (λ k h. repeated_finds A (λ _. r) (λ _. item) (λ _. one) 0 k)

-- ---- what is read, with nothing behind it

-- the fault of an answer
abbrev pub fault_in_answer : {A : Type 0} → Result A CertFault → Option CertFault
fault_in_answer (Ok x) = None
fault_in_answer (Err e) = Some e

over_by : {A : Type 0} (over : Bool) (x : A) (n : ℕ) → cond over None (Some (fault.Trailing n)) ≡ fault_in_answer (cond over (Ok x) (Err (fault.Trailing n)))
over_by true x n = refl
over_by false x n = refl

answer_then : {A B : Type 0} (r : Result (A × Unread) CertFault) (g : A × Unread → Result B CertFault) → fault_in_answer (r >>= g) ≡ or_left r (λ x left. fault_in_answer (g (x, left)))
answer_then (Ok x) g = refl
answer_then (Err e) g = refl

module _ {A Wanted : Type 0} (format : Format Wanted) where
  nothing_wanted : (x : A) (n : ℕ) (lines : List Bytes) (tail : Bytes) →
      fault_in format [] (unread_of n lines tail) ≡ fault_in_answer (cond (is_empty lines && is_empty tail) (Ok x) (Err (fault.Trailing n)))
  nothing_wanted x n [] tail = over_by (is_empty tail) x n
  nothing_wanted x n (line ∷ lines) tail = refl

  -- the fault of the answer is that of what is left
  pub whole_finds : (r : Reader A) (wanted : List Wanted) → FindsFault format r wanted → (s : Unread) → fault_in format wanted s ≡ fault_in_answer (whole r s)
  whole_finds r wanted finds s =
      ap (λ ws. fault_in format ws s) (sym (append-nil wanted))
      ∙ finds [] s
      ∙ or_left_same (r s) (λ x left. fault_in format [] left) (λ x left. fault_in_answer (cond (is_over left) (Ok x) (Err (fault.Trailing left.number)))) (λ x left e. nothing_wanted x left.number left.lines left.tail)
      ∙ sym (answer_then (r s) (λ x. cond (is_over x.1) (Ok x.0) (Err (fault.Trailing x.1.number))))
