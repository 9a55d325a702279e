use Rattle.pc_graph.proofs.Loops as proof
use Rattle.pc_graph.proofs.laws.loops_are_marked.Goals as goal

pub returns : goal.returns
returns c = proof.loops_are_marked
