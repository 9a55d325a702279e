use Rattle.pc_graph.proofs.Programs as proof
use Rattle.pc_graph.proofs.laws.owed_is_violated.Goals as goal

pub returns : goal.returns
returns c = proof.owed_is_violated
