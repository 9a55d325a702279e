-- Faults that are handed on, in calls that may want memory.
use Rattle.std.proofs.Common.{◌≡◌, ◌∙◌, ap, sym, subst, ℕ, Result, Ok, Err}
use Rattle.pc_text.specs.Bytes.{Bytes}
use Rattle.pc_lines.specs.declared.fault.CertFault.{CertFault}
use Rattle.pc_lines.specs.declared.fault.CertFault.TheVariants as fault
use Rattle.pc_text.specs.Words.{Words, words}
use Rattle.pc_lines.specs.Kinds.{Kind}
use Rattle.pc_lines.specs.Readers.{◌>>=◌, Unread, take_line, line_value, read_line}
use Rattle.pc_lines.specs.Answers.{Unless, Gives, Reads}

-- what holds, holds of any fault
pub told : (e : CertFault) (P : Type 0) → P → Unless e P
told fault.NoMemory P h = tt
told (fault.Form n) P h = h
told (fault.Number n) P h = h
told (fault.Trailing n) P h = h

pub unless_then : (e : CertFault) (P Q : Type 0) → (P → Q) → Unless e P → Unless e Q
unless_then fault.NoMemory P Q f h = tt
unless_then (fault.Form n) P Q f h = f h
unless_then (fault.Number n) P Q f h = f h
unless_then (fault.Trailing n) P Q f h = f h

-- a fault that is handed on, in a call that gives an answer
pub handed_on : (A : Type 0) (r : Result A CertFault) (answer : Result A CertFault) (P : Type 0) (y e : CertFault) → r ≡ Err y → y ≡ e → (P → answer ≡ Err e) → Unless e P → Gives answer r
handed_on A r answer P y e p q f h = subst (Gives answer) (sym (p ∙ ap Err q)) (unless_then e P (answer ≡ Err e) f h)

-- the same in a call that reads
pub reads_on : {A S : Type 0} (r : Result A CertFault) (answer : Result (A × S) CertFault) (left : S) (P : Type 0) (y e : CertFault) → r ≡ Err y → y ≡ e → (P → answer ≡ Err e) → Unless e P → Reads answer r left
reads_on r answer left P y e p q f h = subst (λ r. Reads answer r left) (sym (p ∙ ap Err q)) (unless_then e P (answer ≡ Err e) f h)

line_by : {A : Type 0} (kind : Kind) (value : Words → A) (s left : Unread) (line : Bytes) (r : Result A CertFault) → take_line s ≡ Ok (line, left) →
    Gives (line_value kind value s.number (words line)) r → Reads (read_line kind value s) r left
line_by kind value s left line (Ok x) e g =
    ap (λ t. t >>= (λ x. line_value kind value s.number (words x.0) >>= (λ y. Ok (y, x.1)))) e ∙ ap (λ v. v >>= (λ y. Ok (y, left))) g
line_by kind value s left line (Err f) e g =
    unless_then f (line_value kind value s.number (words line) ≡ Err f) (read_line kind value s ≡ Err f)
    (λ h. ap (λ t. t >>= (λ x. line_value kind value s.number (words x.0) >>= (λ y. Ok (y, x.1)))) e ∙ ap (λ v. v >>= (λ y. Ok (y, left))) h) g

-- the next line, and what it says
pub line_read : {A : Type 0} (kind : Kind) (value : Words → A) (s left : Unread) (n : ℕ) (line : Bytes) (r : Result A CertFault) →
    (take_line s ≡ Ok (line, left)) × (n ≡ s.number) → Gives (line_value kind value n (words line)) r → Reads (read_line kind value s) r left
line_read kind value s left n line r taken g = line_by kind value s left line r taken.0 (subst (λ n. Gives (line_value kind value n (words line)) r) taken.1 g)

gives_by : {A : Type 0} (r answer : Result A CertFault) → answer ≡ r → Gives answer r
gives_by (Ok x) answer e = e
gives_by (Err f) answer e = told f (answer ≡ Err f) e

-- a call that gives just the answer
pub gives_same : {A : Type 0} (r answer : Result A CertFault) → r ≡ answer → Gives answer r
gives_same r answer e = gives_by r answer (sym e)
