use Rattle.pc_readback.proofs.Spelled as proof
use Rattle.pc_readback.proofs.laws.spelled_are_showable.Goals as goal

pub returns : goal.returns
returns c = proof.spelled_are_showable
