use Rattle.pc_cert.proofs.Meaning.{each_text_has_one_answer as proved}
use Rattle.pc_cert.proofs.laws.each_text_has_one_answer.Goals as goal

pub returns : goal.returns
returns c = proved
