use Rattle.pc_flow.specs.Carry.{premises}
use Rattle.pc_certify.proofs.Proofs.{row_by_search}
use Rattle.pc_certify.proofs.row.row_proof.Goals as goal

pub returns-then-origin : goal.returns-then-origin
returns-then-origin c =
    let origin = c.args.origin.now in
    row_by_search origin.edge.now.what (premises origin.edge.now.what origin.rows.now) c.args.r.now c.in-Ok.goal c.in-Ok.ensures origin.head c.searched.result c.if-origin.true c.searched.ensures
