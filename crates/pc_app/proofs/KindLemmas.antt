-- The bytes of a file of each kind have a meaning or a fault.
use Rattle.std.proofs.Common.{◌≡◌, Ok, Err, Some, None, Option, Result, ◌⊎◌, inl, inr, refl, subst, ℕ}
use Rattle.pc_text.specs.Bytes.{Bytes}
use Rattle.pc_program.specs.declared.program.Program.{Program}
use Rattle.pc_syntax.specs.Context.{content_of}
use Rattle.pc_syntax.specs.Spelling.{Spells, Faulty, Means}
use Rattle.pc_syntax.specs.declared.fault.SourceFault.{SourceFault}
use Rattle.pc_syntax.proofs.Readings.{each_text_has_one, each_text_has_no_more}
use Rattle.pc_certificate.specs.Certificate.{Certificate}
use Rattle.pc_cert.specs.CertificateTexts.{IsTextOf}
use Rattle.pc_cert.specs.Faults.{fault_of}
use Rattle.pc_lines.specs.declared.fault.CertFault.{CertFault}
use Rattle.pc_cert.proofs.Meaning.{each_text_has_one_answer}
use Rattle.pc_runner.specs.Scripts.{Choosing, script_of}
use Rattle.pc_runner.specs.declared.fault.ScriptFault.{ScriptFault}
use Rattle.pc_app.specs.declared.status.TheConstants.{REFUSED, MALFORMED}
use Rattle.pc_app.specs.Files.{Kind, FaultyOr, with_fault}
use Rattle.pc_app.specs.Kinds.{source_kind, script_kind, certificate_kind}

-- bytes have a meaning or a fault, and not both; a file with a fault is refused, or malformed
pub record IsDecided (kind : Kind) : Type 0 where
  pub total : (bytes : Bytes) → ((m : kind.Meaning) × kind.Means bytes m) ⊎ ((f : kind.Fault) × kind.Faulty bytes f)
  pub apart : (bytes : Bytes) (m : kind.Meaning) (f : kind.Fault) → kind.Means bytes m → kind.Faulty bytes f → ⊥
  pub status : (kind.status ≡ REFUSED) ⊎ (kind.status ≡ MALFORMED)

-- two kinds with one limit and one status, such that bytes mean something by both or by neither
pub record AreAlike (k l : Kind) : Type 0 where
  pub limit : (bytes : Bytes) → k.limit bytes ≡ l.limit bytes
  pub status : k.status ≡ l.status
  pub to : (bytes : Bytes) (x : k.Meaning) → k.Means bytes x → (y : l.Meaning) × l.Means bytes y
  pub fro : (bytes : Bytes) (y : l.Meaning) → l.Means bytes y → (x : k.Meaning) × k.Means bytes x

pub alike_self : (kind : Kind) → AreAlike kind kind
alike_self kind = record { limit = λ bytes. refl; status = refl; to = λ bytes x means. (x, means); fro = λ bytes x means. (x, means) }

-- ---- sources

source_answer : (bytes : Bytes) (r : Result Program SourceFault) → Means bytes r → ((p : Program) × Spells bytes p) ⊎ ((f : SourceFault) × Faulty bytes f)
source_answer bytes (Ok p) h = inl (p, h)
source_answer bytes (Err f) h = inr (f, h)

pub source_decided : IsDecided source_kind
source_decided =
    record {
      total = λ bytes. let x = each_text_has_one bytes in source_answer bytes x.0 x.1;
      apart = λ bytes p f spells faulty. each_text_has_no_more bytes (Ok p) (Err f) spells faulty;
      status = inl refl;
    }

-- programs that one text spells are the same but for their proofs
pub one_content : (bytes : Bytes) (p q : Program) → Spells bytes p → Spells bytes q → content_of p ≡ content_of q
one_content bytes p q spells spells' = each_text_has_no_more bytes (Ok p) (Ok q) spells spells'

-- ---- scripts

script_answer : (params : ℕ) (bytes : Bytes) (r : Result Choosing ScriptFault) → script_of params bytes ≡ r → ((c : Choosing) × (script_of params bytes ≡ Ok c)) ⊎ ((f : ScriptFault) × (script_of params bytes ≡ Err f))
script_answer params bytes (Ok c) h = inl (c, h)
script_answer params bytes (Err f) h = inr (f, h)

script_apart : (params : ℕ) (bytes : Bytes) (c : Choosing) (f : ScriptFault) → script_of params bytes ≡ Ok c → script_of params bytes ≡ Err f → ⊥
script_apart params bytes c f means faulty = cc

pub script_decided : (params : ℕ) → IsDecided (script_kind params)
script_decided params =
    record {
      total = λ bytes. script_answer params bytes (script_of params bytes) refl;
      apart = script_apart params;
      status = inr refl;
    }

pub scripts_alike : (m n : ℕ) → m ≡ n → AreAlike (script_kind m) (script_kind n)
scripts_alike m n e = subst (λ (k : ℕ). AreAlike (script_kind m) (script_kind k)) e (alike_self (script_kind m))

-- ---- certificates

certificate_answer : (b : Bytes) →
    ((c : Certificate) × IsTextOf b c × (fault_of b ≡ None)) ⊎ ((e : CertFault) × (fault_of b ≡ Some e) × ((c : Certificate) → IsTextOf b c → ⊥)) →
    ((c : Certificate) × IsTextOf b c) ⊎ ((f : CertFault) × (fault_of b ≡ Some f))
certificate_answer b (inl x) = inl (x.0, x.1)
certificate_answer b (inr x) = inr (x.0, x.1)

-- the text of a certificate has no fault
text_has_no_fault : (b : Bytes) (c : Certificate) (f : CertFault) → IsTextOf b c → fault_of b ≡ Some f → ⊥
text_has_no_fault b c f is faulty = by (each_text_has_one_answer b)
  where
    by : ((d : Certificate) × IsTextOf b d × (fault_of b ≡ None)) ⊎ ((e : CertFault) × (fault_of b ≡ Some e) × ((d : Certificate) → IsTextOf b d → ⊥)) → ⊥
    by (inl x) = let none = x.2 in absurd (cc)
    by (inr x) = x.2 c is

pub certificate_decided : IsDecided certificate_kind
certificate_decided =
    record {
      total = λ bytes. certificate_answer bytes (each_text_has_one_answer bytes);
      apart = text_has_no_fault;
      status = inr refl;
    }

-- ---- kinds with a further fault

module _ (kind : Kind) (F : Type 0) (fault : kind.Meaning → Option F) (more : F → Bytes) (decided : IsDecided kind)
    (same : (bytes : Bytes) (m n : kind.Meaning) → kind.Means bytes m → kind.Means bytes n → fault m ≡ fault n) where
  more_total : (bytes : Bytes) (m : kind.Meaning) → kind.Means bytes m → (o : Option F) → fault m ≡ o →
      ((m : kind.Meaning) × (kind.Means bytes m × (fault m ≡ None))) ⊎ ((f : kind.Fault ⊎ F) × FaultyOr kind F fault bytes f)
  more_total bytes m means None e = inl (m, (means, e))
  more_total bytes m means (Some f) e = inr (inr f, (m, means, e))

  by_total : (bytes : Bytes) → ((m : kind.Meaning) × kind.Means bytes m) ⊎ ((f : kind.Fault) × kind.Faulty bytes f) →
      ((m : kind.Meaning) × (kind.Means bytes m × (fault m ≡ None))) ⊎ ((f : kind.Fault ⊎ F) × FaultyOr kind F fault bytes f)
  by_total bytes (inl x) = more_total bytes x.0 x.1 (fault x.0) refl
  by_total bytes (inr x) = inr (inl x.0, x.1)

  more_apart : (bytes : Bytes) (m : kind.Meaning) (f : kind.Fault ⊎ F) → kind.Means bytes m × (fault m ≡ None) → FaultyOr kind F fault bytes f → ⊥
  more_apart bytes m (inl f) means faulty = decided.apart bytes m f means.0 faulty
  more_apart bytes m (inr f) means faulty =
      let one = same bytes m faulty.0 means.0 faulty.1 in
      let none = means.1 in
      let some = faulty.2 in
      absurd (cc)

  pub with_fault_decided : IsDecided (with_fault kind F fault more)
  with_fault_decided = record { total = λ bytes. by_total bytes (decided.total bytes); apart = more_apart; status = decided.status }
