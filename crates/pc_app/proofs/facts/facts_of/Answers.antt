use Rattle.pc_app.proofs.FactLemmas.{facts_of_boxes, facts_of_polyhedra}
use Rattle.pc_app.proofs.facts.facts_of.Goals as goal

pub returns-in-Boxes : goal.returns-in-Boxes
returns-in-Boxes c = rw c.in-Boxes.is (facts_of_boxes c.args.program.now _ c.in_ok-graph.ensures c.boxes_of.result c.boxes_of.ensures)

pub returns : goal.returns
returns c = rw c.in-Polyhedra.is (facts_of_polyhedra c.args.program.now _ c.in_ok-graph.ensures c.polyhedra_of.result c.polyhedra_of.ensures)
