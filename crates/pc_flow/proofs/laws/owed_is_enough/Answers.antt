use Rattle.pc_flow.proofs.Carrying as proof
use Rattle.pc_flow.proofs.laws.owed_is_enough.Goals as goal

pub returns : goal.returns
returns c = proof.owed_is_enough
