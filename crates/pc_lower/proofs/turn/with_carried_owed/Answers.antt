use Rattle.std.proofs.Common.{List}
use Rattle.std.proofs.lemmas.Result.{err_from_is_err_and}
use Rattle.pc_rows.specs.Linear.{Linear}
use Rattle.pc_flow.specs.Carry.{back_all}
use Rattle.pc_lower.specs.Candidate.{with_owed}
use Rattle.pc_lower.specs.Course.{owed_operations}
use Rattle.pc_lower.specs.Operations.{carries, after_all, operations_of_all}
use Rattle.pc_lower.proofs.Answering.{cannot_refuse}
use Rattle.pc_lower.proofs.turn.with_carried_owed.Goals as goal

pub returns-in_err-owed : goal.returns-in_err-owed
returns-in_err-owed c =
    let p = err_from_is_err_and c.from_residual.result c.from_residual.ensures.1 in
    let w = c.args.e.now.what in
    let step = with_owed c.args.g.now c.args.m c.args.e.now c.args.begun.now in
    let os = owed_operations c.args.g.now c.args.m c.args.e.now c.args.begun.now in
    let back = back_all w c.args.target.now in
    rw (p.1, p.2) (cannot_refuse {B = List Linear} (carries w c.args.target.now) (operations_of_all step os c.args.present back) back (after_all step c.args.present back)
    c.in_err-owed.field-0.0 c.requires.carried c.in_err-owed.ensures)
