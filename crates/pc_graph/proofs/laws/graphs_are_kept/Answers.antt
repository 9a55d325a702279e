use Rattle.pc_graph.proofs.Graphs.{graph_kept}
use Rattle.pc_graph.proofs.laws.graphs_are_kept.Goals as goal

pub returns : goal.returns
returns c = graph_kept
