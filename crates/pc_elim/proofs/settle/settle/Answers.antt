use Rattle.std.proofs.lemmas.Result.{err_from_is_err_and}
use Rattle.pc_rows.specs.declared.row.TheConstants.{VARIABLES}
use Rattle.pc_elim.proofs.Settlement.{point_settles, point_fails}
use Rattle.pc_elim.proofs.settle.settle.Goals as goal

pub returns-in_err-p-in-None : goal.returns-in_err-p-in-None
returns-in_err-p-in-None c =
    let p = err_from_is_err_and c.from_residual-in_err-p-in-None.result c.from_residual-in_err-p-in-None.ensures.1 in
    rw (p.1, p.2) (point_fails VARIABLES c.args.rows.now c.in_ok-multipliers.field-0 c.in_ok-multipliers.ensures c.origin.result _ c.in-None.is c.origin.ensures c.in_err-p-in-None.ensures)

pub returns-in_ok-p-in-None : goal.returns-in_ok-p-in-None
returns-in_ok-p-in-None c = point_settles VARIABLES c.args.rows.now c.in_ok-multipliers.field-0 c.in_ok-multipliers.ensures c.origin.result c.in_ok-p-in-None.p c.in-None.is c.origin.ensures c.in_ok-p-in-None.ensures
