use Rattle.pc_certify.proofs.Renewing.{renewed_is}
use Rattle.pc_certify.proofs.entry.entry_proofs.Goals as goal

pub returns : goal.returns
returns c =
    renewed_is c.args.g.now.params c.args.rows.now c.args.next.now c.entry_edge.result.now c.asked_proofs.result
    c.entry_edge.ensures.edge c.asked_proofs.ensures.few c.asked_proofs.ensures.proofs
