-- Made sources are read, since each of them spells a program.
use Rattle.std.proofs.Common.{◌≡◌, ◌≢◌, ◌++◌, ℕ, length, refl, sym, subst, Result, Ok, Err}
use Rattle.std.proofs.lemmas.List.{length-map}
use Rattle.pc_text.specs.Bytes.{Bytes}
use Rattle.pc_program.specs.declared.program.Program.{Program}
use Rattle.pc_syntax.specs.Spelling.{Spells, Means, AlikeUnless}
use Rattle.pc_syntax.specs.declared.fault.SourceFault.{SourceFault}
use Rattle.pc_syntax.specs.declared.fault.SourceFault.TheVariants as fault
use Rattle.pc_certificate.specs.Certificate.{Certificate, condition_of}
use Rattle.pc_condition.specs.Conditions.{condition_text}
use Rattle.pc_gen.specs.Made.{IsLoops, made}
use Rattle.pc_gen.specs.Summary.{summary_text}
use Rattle.pc_gen.specs.declared.summary.Summary.{Summary}
use Rattle.pc_readback.proofs.MadeSpelled.{made_spells}
use Rattle.pc_app.specs.Subjects.{of_program}
use Rattle.pc_app.specs.Inferred.{Inferred}
use Rattle.pc_app.specs.Trial.{IsSize, TrialPrints}

is_memory : (f : SourceFault) → (f ≢ fault.NoMemory → ⊥) → f ≡ fault.NoMemory
is_memory (fault.BadByte p b) h = absurd (h (λ e. cc))
is_memory (fault.LiteralTooBig p) h = absurd (h (λ e. cc))
is_memory (fault.NameTooLong p) h = absurd (h (λ e. cc))
is_memory (fault.Syntax p) h = absurd (h (λ e. cc))
is_memory (fault.TooDeep p) h = absurd (h (λ e. cc))
is_memory (fault.TooLong p) h = absurd (h (λ e. cc))
is_memory (fault.DuplicateName p) h = absurd (h (λ e. cc))
is_memory (fault.TooManyNames p) h = absurd (h (λ e. cc))
is_memory (fault.UnknownName p) h = absurd (h (λ e. cc))
is_memory (fault.NotAffine p) h = absurd (h (λ e. cc))
is_memory (fault.FormPast p) h = absurd (h (λ e. cc))
is_memory (fault.Unequal p) h = absurd (h (λ e. cc))
is_memory (fault.EmptyInterval p lo hi) h = absurd (h (λ e. cc))
is_memory (fault.TooManyEdges p) h = absurd (h (λ e. cc))
is_memory fault.NoMemory h = refl

-- no other fault than want of memory is answered for one
pub only_memory : (loops : ℕ) (source : Bytes) (f : SourceFault) → IsLoops loops → source ≡ made loops →
    ((answer : Result Program SourceFault) → Means source answer → AlikeUnless (Err f) answer) → f ≡ fault.NoMemory
only_memory loops source f h is only =
    let spelled = made_spells loops h in
    is_memory f (only (Ok spelled.0) (rw is spelled.1))

-- ---- what is told

pub told_is : (loops : ℕ) (source : Bytes) (p : Program) (c : Certificate) (summary : Summary) (text : Bytes) → IsLoops loops → source ≡ made loops → Spells source p →
    Inferred (of_program p) c → IsSize loops source (of_program p).flow (length c.alternatives) summary →
    text ≡ summary_text summary ++ condition_text p.names.names (condition_of c) → TrialPrints loops text
told_is loops source p c summary text fits is spelled inferred size printed =
    let many : length (condition_of c) ≡ length c.alternatives = length-map c.alternatives _ in
    record {
      fits = fits;
      program = p;
      spelled = subst (λ (b : Bytes). Spells b p) is spelled;
      certificate = c;
      inferred = inferred;
      summary = summary;
      size = subst (λ (b : Bytes). IsSize loops b (of_program p).flow (length (condition_of c)) summary) is
          (subst (λ (n : ℕ). IsSize loops source (of_program p).flow n summary) (sym many) size);
      text_is = printed;
    }
