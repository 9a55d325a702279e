use Rattle.pc_flow.proofs.Witness as proof
use Rattle.pc_flow.proofs.laws.owed_is_needed.Goals as goal

pub returns : goal.returns
returns c = proof.owed_is_needed
