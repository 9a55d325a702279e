use Rattle.pc_graph.proofs.LoopFree as proof
use Rattle.pc_graph.proofs.laws.loop_free_graphs.Goals as goal

pub returns : goal.returns
returns c = proof.loop_free_graphs
