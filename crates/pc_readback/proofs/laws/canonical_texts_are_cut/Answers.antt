use Rattle.pc_readback.proofs.CanonicalTexts as proof
use Rattle.pc_readback.proofs.laws.canonical_texts_are_cut.Goals as goal

pub returns : goal.returns
returns c = proof.canonical_texts_are_cut
