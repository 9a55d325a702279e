use Rattle.pc_graph.proofs.Loops as proof
use Rattle.pc_graph.proofs.laws.checks_stand_alone.Goals as goal

pub returns : goal.returns
returns c = proof.checks_stand_alone
