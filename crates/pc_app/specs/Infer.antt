-- `infer F` prints a condition on the entry states of the source F, and `infer F --certificate` a certificate of one.
use Rattle.std.specs.Prelude.{◌≡◌, ◌≤◌, length}
use Rattle.pc_text.specs.Bytes.{Bytes}
use Rattle.pc_certificate.specs.Certificate.{Certificate, condition_of}
use Rattle.pc_cert.specs.CertificateTexts.{IsTextOf}
use Rattle.pc_condition.specs.Conditions.{condition_text}
use Rattle.pc_app.specs.declared.limits.TheConstants.{CERTIFICATE_BYTES}
use Rattle.pc_app.specs.Inputs.{OneFile}
use Rattle.pc_app.specs.Kinds.{source_kind}
use Rattle.pc_app.specs.Subjects.{Subject, of_program}
use Rattle.pc_app.specs.Inferred.{Inferred}
use Rattle.pc_app.specs.Tasks.{Task, plain}

-- the text of the condition of a certificate that is inferred
pub record InferPrints (subject : Subject) (text : Bytes) : Type 0 where
  pub certificate : Certificate
  pub inferred : Inferred subject certificate
  pub text_is : text ≡ condition_text subject.names (condition_of certificate)

-- the text of such a certificate, which is not too long to be read
pub record CertifyPrints (subject : Subject) (text : Bytes) : Type 0 where
  pub certificate : Certificate
  pub inferred : Inferred subject certificate
  pub spelled : IsTextOf text certificate
  pub short : length text ≤ CERTIFICATE_BYTES

abbrev pub infer : Bytes → Task
infer source = plain (OneFile source_kind source) (λ p. InferPrints (of_program p))

abbrev pub certify : Bytes → Task
certify source = plain (OneFile source_kind source) (λ p. CertifyPrints (of_program p))
