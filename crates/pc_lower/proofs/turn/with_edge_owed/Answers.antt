use Rattle.std.proofs.Common.{◌≡◌, Err, List, ap, sym, subst, rules}
use Rattle.std.proofs.lemmas.Result.{err_from_is_err_and}
use Rattle.pc_rows.specs.Linear.{Linear}
use Rattle.pc_flow.specs.declared.what.What.{What}
use Rattle.pc_flow.specs.declared.what.What.TheVariants.{Check}
use Rattle.pc_flow.specs.Carry.{owes}
use Rattle.pc_lower.specs.Candidate.{with_owed}
use Rattle.pc_lower.specs.Course.{owed_operations}
use Rattle.pc_lower.specs.Operations.{Answers, after_all, operations_of_all}
use Rattle.pc_lower.proofs.Going.{both_answer, first_refused}
use Rattle.pc_lower.proofs.turn.with_edge_owed.Goals as goal

pub returns-in_err-first-in-Check : goal.returns-in_err-first-in-Check
returns-in_err-first-in-Check c =
    let p = err_from_is_err_and c.from_residual.result c.from_residual.ensures.1 in
    let step = with_owed c.args.g.now c.args.m c.args.e.now c.args.begun.now in
    let os = owed_operations c.args.g.now c.args.m c.args.e.now c.args.begun.now in
    let is : c.args.e.now.what ≡ Check c.in-Check.own = search rules in
    let owed = ap (λ (z : What). owes z c.args.target.now) is in
    let value = after_all step c.args.present (owes c.args.e.now.what c.args.target.now) in
    rw (p.1, p.2) (subst (λ (z : List Linear). Answers (operations_of_all step os c.args.present z) value (Err c.in_err-first-in-Check.field-0.0)) (sym owed)
    (first_refused step os c.args.present c.in-Check.own c.args.target.now (after_all step c.args.present c.in-Check.own) value c.in_err-first-in-Check.field-0.0 c.in_err-first-in-Check.ensures))

pub returns-in_ok-first-in-Check : goal.returns-in_ok-first-in-Check
returns-in_ok-first-in-Check c =
    let step = with_owed c.args.g.now c.args.m c.args.e.now c.args.begun.now in
    let os = owed_operations c.args.g.now c.args.m c.args.e.now c.args.begun.now in
    let is : c.args.e.now.what ≡ Check c.in-Check.own = search rules in
    let owed = ap (λ (z : What). owes z c.args.target.now) is in
    subst (λ (z : List Linear). Answers (operations_of_all step os c.args.present z) (after_all step c.args.present z) c.with_all_owed-in-Check.result) (sym owed)
    (both_answer step os c.args.present c.in_ok-first-in-Check.first c.in-Check.own c.args.target.now c.with_all_owed-in-Check.result c.in_ok-first-in-Check.ensures.0 c.in_ok-first-in-Check.ensures.1 c.with_all_owed-in-Check.ensures)
