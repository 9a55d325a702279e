use Rattle.pc_flow.proofs.Closed as proof
use Rattle.pc_flow.proofs.laws.paid_is_safe.Goals as goal

pub returns : goal.returns
returns c = proof.paid_is_safe
