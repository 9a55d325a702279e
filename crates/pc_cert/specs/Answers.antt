-- What is answered to a text.
use Rattle.std.specs.Prelude.{Result}
use Rattle.pc_text.specs.Bytes.{Bytes}
use Rattle.pc_lines.specs.declared.fault.CertFault.{CertFault}
use Rattle.pc_lines.specs.Answers.{MeansBy, TextsDetermine, HaveOneAnswer}
use Rattle.pc_certificate.specs.Certificate.{Certificate}
use Rattle.pc_cert.specs.CertificateTexts.{IsTextOf}
use Rattle.pc_cert.specs.Faults.{fault_of}

-- the answer is right: the bytes are the text of the certificate, or their fault is this one
abbrev pub Means : Bytes → Result Certificate CertFault → Type 0
Means = MeansBy IsTextOf fault_of

-- no other certificate has the text
abbrev pub TextDeterminesCertificate : Type 0
TextDeterminesCertificate = TextsDetermine IsTextOf

-- what a text is: that of a certificate, without a fault, or that of none, with one
abbrev pub EachTextHasOneAnswer : Type 0
EachTextHasOneAnswer = HaveOneAnswer IsTextOf fault_of
