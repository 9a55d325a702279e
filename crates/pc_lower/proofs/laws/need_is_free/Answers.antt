use Rattle.pc_lower.proofs.Meaning as proof
use Rattle.pc_lower.proofs.laws.need_is_free.Goals as goal

pub returns : goal.returns
returns c = proof.need_is_free
