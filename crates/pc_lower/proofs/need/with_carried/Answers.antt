use Rattle.std.proofs.Common.{[], ◌∷◌}
use Rattle.std.proofs.lemmas.Result.{err_from_is_err_and}
use Rattle.pc_rows.specs.Joins.{joined}
use Rattle.pc_flow.specs.Carry.{back_all}
use Rattle.pc_lower.specs.Operations.{Joins, carries}
use Rattle.pc_lower.proofs.Answering.{left_all, refused}
use Rattle.pc_lower.proofs.Asking.{carried_joined}
use Rattle.pc_lower.proofs.need.with_carried.Goals as goal

pub returns-in_err-carried : goal.returns-in_err-carried
returns-in_err-carried c =
    let p = err_from_is_err_and c.from_residual.result c.from_residual.ensures.1 in
    let w = c.args.e.now.what in
    let back = back_all w c.args.target.now in
    rw (p.1, p.2) (refused (carries w c.args.target.now) (Joins c.args.rows.now back ∷ []) _ back (joined c.args.rows.now back) c.in_err-carried.field-0.0 (left_all _) c.in_err-carried.ensures)

pub returns : goal.returns
returns c = carried_joined c.args.e.now.what c.args.rows.now c.args.target.now c.in_ok-carried.field-0 c.joined-2.result c.in_ok-carried.ensures.0 c.in_ok-carried.ensures.1 c.joined-2.ensures
