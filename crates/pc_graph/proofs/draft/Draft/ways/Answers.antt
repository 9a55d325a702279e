use Rattle.pc_graph.proofs.Ready.{test_ready, ready_fit, ready_few}
use Rattle.pc_graph.proofs.draft.Draft.ways.Goals as goal

pub rows_of-requires-clause-sane : goal.rows_of-requires-clause-sane
rows_of-requires-clause-sane c = (test_ready c.args.n c.args.all.now c.requires.sane).1

pub spread-requires : goal.spread-requires
spread-requires c = ready_fit c.args.all.now c.in_ok-rows.rows c.in_ok-rows.ensures (test_ready c.args.n c.args.all.now c.requires.sane)

pub edge-requires : goal.edge-requires
edge-requires c = ready_few c.args.all.now c.in_ok-rows.rows c.in_ok-rows.ensures (test_ready c.args.n c.args.all.now c.requires.sane)
