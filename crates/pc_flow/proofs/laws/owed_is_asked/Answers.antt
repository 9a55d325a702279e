use Rattle.pc_flow.proofs.Asked as proof
use Rattle.pc_flow.proofs.laws.owed_is_asked.Goals as goal

pub returns : goal.returns
returns c = proof.owed_is_asked
