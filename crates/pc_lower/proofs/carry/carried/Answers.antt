use Rattle.std.proofs.Common.{List, ap, arith, length, length-append, refl}
use Rattle.std.proofs.lemmas.Result.{err_from_is_err_and}
use Rattle.pc_rows.specs.Linear.{Linear}
use Rattle.pc_flow.specs.Carry.{back_all}
use Rattle.pc_lower.specs.Operations.{Carries, carries}
use Rattle.pc_lower.proofs.Answering.{left_all, left_next, first_is, push_refused}
use Rattle.pc_lower.proofs.Carried.{carry_next, back_next, all_carried}
use Rattle.pc_lower.proofs.carry.carried.Goals as goal

pub loop-i-init : goal.loop-i-init
loop-i-init c = record { whole = rw c.new-all.ensures refl; long = rw c.new-all.ensures refl; left = left_all (carries c.args.e.now.what c.args.rows.now) }

pub returns-in_err-back : goal.returns-in_err-back
returns-in_err-back c =
    let p = err_from_is_err_and c.from_residual.result c.from_residual.ensures.1 in
    let w = c.args.e.now.what in
    rw (p.1, p.2) (first_is (Carries w c.at.result.now) _ (carries w c.args.rows.now) (carry_next w c.args.rows.now c.loop-i.i c.at.result.now _ c.at.ensures c.loop-i.invariant.left) c.in_err-back.ensures)

pub returns-in_err-push : goal.returns-in_err-push
returns-in_err-push c =
    let p = err_from_is_err_and c.from_residual-in_err-push.result c.from_residual-in_err-push.ensures.1 in
    let i = c.loop-i.invariant.long in
    rw p.1 (push_refused c.loop-i.all c.push.new.self c.in_ok-back.field-0 c.in_err-push.field-0.0 p.0 _ (back_all c.args.e.now.what c.args.rows.now) (omega arith) c.in_err-push.ensures p.2)

pub loop-i-preserved : goal.loop-i-preserved
loop-i-preserved c =
    let w = c.args.e.now.what in
    let pushed = c.in_ok-push.ensures.1 in
    let size = ap (λ (z : List Linear). length z) pushed in
    record {
      whole = rw pushed (back_next w c.args.rows.now c.loop-i.i c.at.result.now c.in_ok-back.field-0 c.loop-i.all c.at.ensures c.in_ok-back.ensures.1 c.loop-i.invariant.whole);
      long = omega (arith, simp length-append at size);
      left = left_next (Carries w c.at.result.now) _ _ (carry_next w c.args.rows.now c.loop-i.i c.at.result.now _ c.at.ensures c.loop-i.invariant.left) c.in_ok-back.ensures.0;
    }

pub returns : goal.returns
returns c =
    all_carried c.args.e.now.what c.args.rows.now c.loop-i.i c.loop-i.all (omega arith) c.loop-i.invariant.whole c.loop-i.invariant.left
