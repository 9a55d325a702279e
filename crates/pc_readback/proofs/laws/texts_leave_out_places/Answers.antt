use Rattle.pc_readback.proofs.BareTexts as proof
use Rattle.pc_readback.proofs.laws.texts_leave_out_places.Goals as goal

pub returns : goal.returns
returns c = proof.texts_leave_out_places
