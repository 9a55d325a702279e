use Rattle.std.proofs.Common.{arith}
use Rattle.std.proofs.lemmas.Result.{err_from_is_err_and}
use Rattle.pc_elim.proofs.Settlement.{level_fails}
use Rattle.pc_elim.proofs.settle.level.Goals as goal

pub returns-in_err-rows-2-clause-value : goal.returns-in_err-rows-2-clause-value
returns-in_err-rows-2-clause-value c =
    let p = err_from_is_err_and c.from_residual-in_err-rows-2.result c.from_residual-in_err-rows-2.ensures.1 in
    rw (p.1, p.2) (level_fails c.args.k c.loop-j.j c.args.start.now c.loop-j.rows _ (omega arith) c.loop-j.invariant.is c.in_err-rows-2.ensures.value)
