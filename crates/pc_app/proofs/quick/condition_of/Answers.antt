use Rattle.pc_app.proofs.QuickLemmas.{enough_by_rows, enough_by_boxes}
use Rattle.pc_app.proofs.quick.condition_of.Goals as goal

pub returns-in-Rows : goal.returns-in-Rows
returns-in-Rows c = rw c.in-Rows.is (enough_by_rows c.args.program.now _ c.in_ok-graph.ensures c.by_rows.result c.by_rows.ensures)

pub returns : goal.returns
returns c = rw c.in-Boxes.is (enough_by_boxes c.args.program.now _ c.in_ok-graph.ensures c.by_boxes.result c.by_boxes.ensures)
