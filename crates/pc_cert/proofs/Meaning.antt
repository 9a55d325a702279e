-- What is read of a text is the certificate that it means.
use Rattle.std.proofs.Common.{◌≡◌, refl, List, [], ◌∷◌, Result, Ok}
use Rattle.pc_text.specs.Bytes.{Bytes}
use Rattle.pc_lines.specs.declared.fault.CertFault.{CertFault}
use Rattle.pc_lines.specs.Texts.{lines_text}
use Rattle.pc_lines.specs.Faults.{fault_in_text}
use Rattle.pc_lines.specs.Readers.{Unread, unread, whole}
use Rattle.pc_lines.specs.Answers.{Gives}
use Rattle.pc_lines.proofs.Meaning as law
use Rattle.pc_lines.proofs.Meaning.{IsReader}
use Rattle.pc_certificate.specs.Certificate.{Certificate}
use Rattle.pc_cert.specs.CertificateTexts.{certificate_lines, IsTextOf}
use Rattle.pc_cert.specs.Faults.{Wanted, Version, Graph, format, fault_of}
use Rattle.pc_cert.specs.Readers.{certificate_reader}
use Rattle.pc_cert.specs.Answers.{Means, TextDeterminesCertificate, EachTextHasOneAnswer}
use Rattle.pc_cert.proofs.CertificateFaults.{certificate_finds}
use Rattle.pc_cert.proofs.PlainLines.{certificate_plain}
use Rattle.pc_cert.proofs.WholeReading.{IsGood, certificate_reads}

abbrev first : List Wanted
first = Version ∷ Graph ∷ []

is_reader : IsReader format first certificate_reader certificate_lines IsGood
is_reader = record { reads = certificate_reads; finds = certificate_finds; plain = certificate_plain }

text_of : (b : Bytes) (c : Certificate) → IsGood c → b ≡ lines_text (certificate_lines c) → IsTextOf b c
text_of b c h e = record { kept = h.0; showable = h.1; text = e }

lines_of : (b : Bytes) (c : Certificate) → IsTextOf b c → IsGood c × (b ≡ lines_text (certificate_lines c))
lines_of b c h = ((h.kept, h.showable), h.text)

fault_is : (b : Bytes) → fault_of b ≡ fault_in_text format first b
unfolding fault_of
fault_is b = refl

-- an answer that is read of the text is right
pub means : (b : Bytes) (s : Unread) (r : Result Certificate CertFault) → s ≡ unread (record { rest = b; number = 1 }) → Gives (whole certificate_reader s) r → Means b r
means b s r e g = law.means format first certificate_reader certificate_lines IsGood is_reader IsTextOf text_of lines_of fault_of fault_is b s r e g

-- and it is the certificate whose text this is
pub only : (b : Bytes) (s : Unread) (r : Result Certificate CertFault) → s ≡ unread (record { rest = b; number = 1 }) → Gives (whole certificate_reader s) r →
    (c : Certificate) → IsTextOf b c → Gives (Ok c) r
only b s r e g c h = law.only format first certificate_reader certificate_lines IsGood is_reader IsTextOf text_of lines_of fault_of fault_is b s r e g c h

pub text_determines_certificate : TextDeterminesCertificate
text_determines_certificate b c d h g = law.texts_determine format first certificate_reader certificate_lines IsGood is_reader IsTextOf text_of lines_of fault_of fault_is b c d h g

pub each_text_has_one_answer : EachTextHasOneAnswer
each_text_has_one_answer b = law.have_one_answer format first certificate_reader certificate_lines IsGood is_reader IsTextOf text_of lines_of fault_of fault_is b
