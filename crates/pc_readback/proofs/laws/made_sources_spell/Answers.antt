use Rattle.pc_readback.proofs.MadeSpelled as proof
use Rattle.pc_readback.proofs.laws.made_sources_spell.Goals as goal

pub returns : goal.returns
returns c = proof.made_spells
