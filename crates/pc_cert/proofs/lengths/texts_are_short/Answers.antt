use Rattle.pc_cert.proofs.ShortTexts as proof
use Rattle.pc_cert.proofs.lengths.texts_are_short.Goals as goal

pub returns : goal.returns
returns c = proof.texts_are_short
