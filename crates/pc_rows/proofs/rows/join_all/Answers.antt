use Rattle.std.proofs.Common.{◌∙◌, sym, arith}
use Rattle.std.proofs.lemmas.Result.{err_from_is_err_and}
use Rattle.pc_rows.proofs.Joining.{err_is, joined-next, joined-done}
use Rattle.pc_rows.proofs.rows.join_all.Goals as goal

pub returns-in_err-add : goal.returns-in_err-add
returns-in_err-add c =
    let p = err_from_is_err_and c.from_residual.result c.from_residual.ensures.1 in
    rw (p.1, p.2) (err_is c.args.a.now c.args.b.now c.loop-i.all c.loop-i.i _ _ _ c.at.ensures c.loop-i.invariant.rest c.requires c.in_err-add.ensures)

pub loop-i-preserved : goal.loop-i-preserved
loop-i-preserved c = record {
  most = c.in_ok-add.ensures.0;
  rest = rw c.in_ok-add.ensures.1 (sym (joined-next c.loop-i.all c.args.b.now c.loop-i.i _ c.at.ensures) ∙ c.loop-i.invariant.rest);
}

pub returns : goal.returns
returns c = (c.loop-i.invariant.most, sym (joined-done c.loop-i.all c.args.b.now c.loop-i.i (omega arith)) ∙ c.loop-i.invariant.rest)
