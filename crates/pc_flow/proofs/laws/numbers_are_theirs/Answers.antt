use Rattle.pc_flow.proofs.Numbers as proof
use Rattle.pc_flow.proofs.laws.numbers_are_theirs.Goals as goal

pub returns : goal.returns
returns c = proof.numbers_are_theirs
