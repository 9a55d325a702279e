use Rattle.std.proofs.lemmas.Result.{err_from_is_err_and}
use Rattle.pc_json.specs.Values.{of_rows}
use Rattle.pc_json.specs.Kept.{Exactly, AreRowsOver}
use Rattle.pc_json.proofs.Arrays.{array_err, refused}
use Rattle.pc_json.proofs.rows.points_in.Goals as goal

pub returns-then-list-points : goal.returns-then-list-points
returns-then-list-points c = refused (AreRowsOver c.args.variables) (of_rows c.args.variables) (Exactly c.args.points) c.args.list.now c.if-list-points.true

pub returns-in_err-rows : goal.returns-in_err-rows
returns-in_err-rows c =
    let p = err_from_is_err_and c.from_residual.result c.from_residual.ensures.1 in
    rw (p.1, p.2) (array_err (AreRowsOver c.args.variables) (of_rows c.args.variables) (Exactly c.args.points) c.args.list.now c.loop-item.item-index c.item-item.result c.in_err-rows.field-0.0 c.loop-item-test.true c.item-item.is c.in_err-rows.ensures)
