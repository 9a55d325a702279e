use Rattle.pc_back.proofs.Keeping as proof
use Rattle.pc_back.proofs.laws.need_is_kept.Goals as goal

pub returns : goal.returns
returns c = proof.need_is_kept
