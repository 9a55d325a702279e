use Rattle.pc_graph.proofs.Bridge as bridge
use Rattle.pc_graph.proofs.laws.steps_correspond.Goals as goal

pub returns : goal.returns
returns c = bridge.steps_correspond
