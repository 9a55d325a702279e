use Rattle.pc_graph.proofs.Bridge as bridge
use Rattle.pc_graph.proofs.laws.rests_are_safe.Goals as goal

pub returns : goal.returns
returns c = bridge.rests_are_safe
