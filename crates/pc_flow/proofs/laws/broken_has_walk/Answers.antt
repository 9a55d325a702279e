use Rattle.pc_flow.proofs.Witness as proof
use Rattle.pc_flow.proofs.laws.broken_has_walk.Goals as goal

pub returns : goal.returns
returns c = proof.broken_has_walk
