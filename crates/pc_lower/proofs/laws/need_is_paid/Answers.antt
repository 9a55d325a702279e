use Rattle.pc_lower.proofs.Paying as proof
use Rattle.pc_lower.proofs.laws.need_is_paid.Goals as goal

pub returns : goal.returns
returns c = proof.need_is_paid
