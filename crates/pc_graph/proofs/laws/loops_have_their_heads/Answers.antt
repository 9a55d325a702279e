use Rattle.pc_graph.proofs.Turns as proof
use Rattle.pc_graph.proofs.laws.loops_have_their_heads.Goals as goal

pub returns : goal.returns
returns c = proof.loops_have_their_heads
