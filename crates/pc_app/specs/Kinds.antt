-- The kinds of files: sources, scripts and certificates.
use Rattle.std.specs.Prelude.{◌≡◌, ℕ, Some, Ok, Err}
use Rattle.pc_program.specs.declared.program.Program.{Program}
use Rattle.pc_syntax.specs.declared.fault.SourceFault.{SourceFault}
use Rattle.pc_syntax.specs.Spelling.{Spells, Faulty}
use Rattle.pc_certificate.specs.Certificate.{Certificate}
use Rattle.pc_cert.specs.CertificateTexts.{IsTextOf}
use Rattle.pc_cert.specs.Faults.{fault_of}
use Rattle.pc_lines.specs.declared.fault.CertFault.{CertFault}
use Rattle.pc_runner.specs.Scripts.{Choosing, script_of}
use Rattle.pc_runner.specs.declared.fault.ScriptFault.{ScriptFault}
use Rattle.pc_app.specs.declared.status.TheConstants.{REFUSED, MALFORMED}
use Rattle.pc_app.specs.declared.limits.TheConstants.{SOURCE_BYTES, SCRIPT_BYTES, CERTIFICATE_BYTES}
use Rattle.pc_app.specs.Files.{Kind}
use Rattle.pc_app.specs.Texts.{source_too_long, script_too_long, certificate_too_long, fault_text, refused, malformed_script, malformed_certificate}

-- a source spells a program
abbrev pub source_kind : Kind
source_kind =
    record {
      limit = λ bytes. SOURCE_BYTES;
      long = source_too_long;
      Meaning = Program;
      Means = Spells;
      Fault = SourceFault;
      Faulty = Faulty;
      status = REFUSED;
      line = λ f. refused (fault_text f);
    }

-- a script for so many parameters is entry values and choices
abbrev pub script_kind : ℕ → Kind
script_kind params =
    record {
      limit = λ bytes. SCRIPT_BYTES;
      long = script_too_long;
      Meaning = Choosing;
      Means = λ bytes c. script_of params bytes ≡ Ok c;
      Fault = ScriptFault;
      Faulty = λ bytes f. script_of params bytes ≡ Err f;
      status = MALFORMED;
      line = malformed_script;
    }

-- a certificate is the text of one
abbrev pub certificate_kind : Kind
certificate_kind =
    record {
      limit = λ bytes. CERTIFICATE_BYTES;
      long = certificate_too_long;
      Meaning = Certificate;
      Means = IsTextOf;
      Fault = CertFault;
      Faulty = λ bytes f. fault_of bytes ≡ Some f;
      status = MALFORMED;
      line = malformed_certificate;
    }
