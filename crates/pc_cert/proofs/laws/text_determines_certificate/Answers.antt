use Rattle.pc_cert.proofs.Meaning.{text_determines_certificate as proved}
use Rattle.pc_cert.proofs.laws.text_determines_certificate.Goals as goal

pub returns : goal.returns
returns c = proved
