use Rattle.pc_syntax.proofs.Readings.{tree_fits}
use Rattle.pc_syntax.proofs.reading.read_content.Goals as goal

pub walk_tree-requires : goal.walk_tree-requires
walk_tree-requires c = tree_fits c.args.src.now c.in_ok-tree.tree c.in_ok-tree.ensures
