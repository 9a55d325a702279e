use Rattle.std.proofs.Common.{arith}
use Rattle.std.proofs.lemmas.Result.{err_from_is_err_and}
use Rattle.pc_breach.proofs.Evaluating.{summed_next, summed_refused, summed_all}
use Rattle.pc_breach.proofs.entry.value_at.Goals as goal

pub returns-in_err-sum : goal.returns-in_err-sum
returns-in_err-sum c =
    let p = err_from_is_err_and c.from_residual.result c.from_residual.ensures.1 in
    let wide = c.constant.ensures.row.wide in
    rw p.1 (summed_refused c.args.r.now c.args.entry.now c.loop-v.v c.loop-v.sum (omega arith) c.loop-v-test.true c.loop-v.invariant
    c.coefficient.result c.value_of.result c.coefficient.ensures c.value_of.ensures c.in_err-sum.ensures)

pub loop-v-preserved : goal.loop-v-preserved
loop-v-preserved c =
    let wide = c.constant.ensures.row.wide in
    summed_next c.args.r.now c.args.entry.now c.loop-v.v c.loop-v.sum (omega arith) c.loop-v-test.true c.loop-v.invariant
    c.coefficient.result c.value_of.result c.coefficient.ensures c.value_of.ensures c.in_ok-sum.sum c.in_ok-sum.ensures.0 c.in_ok-sum.ensures.1

pub returns : goal.returns
returns c = summed_all c.args.r.now c.args.entry.now c.loop-v.v c.loop-v.sum c.loop-v-test.false c.loop-v.invariant
