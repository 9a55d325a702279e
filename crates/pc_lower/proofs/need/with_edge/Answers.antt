use Rattle.std.proofs.Common.{◌≡◌, [], refl, rules}
use Rattle.std.proofs.lemmas.Result.{err_from_is_err_and}
use Rattle.pc_flow.specs.declared.what.What.TheVariants.{Test, Check}
use Rattle.pc_rows.specs.Joins.{joined}
use Rattle.pc_lower.specs.Unchecked.{seen_arc}
use Rattle.pc_lower.specs.Need.{demanded}
use Rattle.pc_lower.proofs.Asking.{over_test, over_check, over_check_refused}
use Rattle.pc_lower.proofs.Seeing.{seen_test, seen_check, unseen_check}
use Rattle.pc_lower.proofs.need.with_edge.Goals as goal

pub returns-in_err-joined-in-Check : goal.returns-in_err-joined-in-Check
returns-in_err-joined-in-Check c =
    let p = err_from_is_err_and c.from_residual-in_err-joined-in-Check.result c.from_residual-in_err-joined-in-Check.ensures.1 in
    let w = (seen_arc c.args.asserted c.args.e.now).what in
    let is : c.args.e.now.what ≡ Check c.in-Check.own = search rules in
    let seen = seen_check c.args.asserted c.args.e.now c.in-Check.own c.if-asserted.true is in
    rw (p.1, p.2) (over_check_refused w c.in-Check.own c.args.rows.now c.args.target.now (joined c.args.rows.now (demanded w c.args.target.now)) c.in_err-joined-in-Check.field-0.0 seen c.in_err-joined-in-Check.ensures)

pub returns-in_ok-uncovered-in-Test : goal.returns-in_ok-uncovered-in-Test
returns-in_ok-uncovered-in-Test c =
    let is : c.args.e.now.what ≡ Test c.in-Test.own = search rules in
    let seen = seen_test c.args.asserted c.args.e.now c.in-Test.own is in
    over_test (seen_arc c.args.asserted c.args.e.now).what c.in-Test.own c.args.rows.now c.args.target.now c.in_ok-uncovered-in-Test.field-0 c.joined-in-Test.result seen c.in_ok-uncovered-in-Test.ensures c.joined-in-Test.ensures

pub returns-in_ok-joined-in-Check : goal.returns-in_ok-joined-in-Check
returns-in_ok-joined-in-Check c =
    let is : c.args.e.now.what ≡ Check c.in-Check.own = search rules in
    let seen = seen_check c.args.asserted c.args.e.now c.in-Check.own c.if-asserted.true is in
    over_check (seen_arc c.args.asserted c.args.e.now).what c.in-Check.own c.args.rows.now c.in_ok-joined-in-Check.field-0 c.args.target.now c.joined-then-asserted-3.result seen c.in_ok-joined-in-Check.ensures.1 c.joined-then-asserted-3.ensures

pub returns-else-asserted : goal.returns-else-asserted
returns-else-asserted c =
    let is : c.args.e.now.what ≡ Check c.in-Check.own = search rules in
    let seen = unseen_check c.args.asserted c.args.e.now c.in-Check.own c.if-asserted.false is in
    over_check (seen_arc c.args.asserted c.args.e.now).what [] c.args.rows.now c.args.rows.now c.args.target.now c.joined-else-asserted.result seen refl c.joined-else-asserted.ensures
