use Rattle.pc_graph.proofs.Straights as proof
use Rattle.pc_graph.proofs.laws.straight_graphs.Goals as goal

pub returns : goal.returns
returns c = proof.straight_graphs
