use Rattle.pc_graph.proofs.StraightLoops as proof
use Rattle.pc_graph.proofs.laws.straight_is_loop_free.Goals as goal

pub returns : goal.returns
returns c = proof.straight_is_loop_free
