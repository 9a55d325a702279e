use Rattle.std.proofs.lemmas.Result.{err_from_is_err_and}
use Rattle.pc_json.specs.Values.{of_proofs}
use Rattle.pc_json.specs.Kept.{Exactly, AreProofs}
use Rattle.pc_json.proofs.Arrays.{array_err, refused}
use Rattle.pc_json.proofs.proofs.edges_in.Goals as goal

pub returns-then-list-edges : goal.returns-then-list-edges
returns-then-list-edges c = refused AreProofs of_proofs (Exactly c.args.edges) c.args.list.now c.if-list-edges.true

pub returns-in_err-proofs : goal.returns-in_err-proofs
returns-in_err-proofs c =
    let p = err_from_is_err_and c.from_residual.result c.from_residual.ensures.1 in
    rw (p.1, p.2) (array_err AreProofs of_proofs (Exactly c.args.edges) c.args.list.now c.loop-item.item-index c.item-item.result c.in_err-proofs.field-0.0 c.loop-item-test.true c.item-item.is c.in_err-proofs.ensures)
