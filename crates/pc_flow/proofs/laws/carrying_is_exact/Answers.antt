use Rattle.pc_flow.proofs.Carrying as proof
use Rattle.pc_flow.proofs.laws.carrying_is_exact.Goals as goal

pub returns : goal.returns
returns c = proof.carrying_is_exact
