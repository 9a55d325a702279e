use Rattle.std.proofs.Common.{arith, sym, ◌∙◌, ◌-◌}
use Rattle.std.proofs.lemmas.Result.{err_from_is_err_and}
use Rattle.pc_elim.proofs.Settlement.{last_over, last_stops, last_comes}
use Rattle.pc_elim.proofs.settle.+last.Goals as goal

pub returns-then-not-has_variable : goal.returns-then-not-has_variable
returns-then-not-has_variable t c = last_over c.args.k (c.args.k - 1) c.args.start.now (omega arith) c.last.result c.requires.most (sym c.has_variable.ensures ∙ c.if-not-has_variable.true) c.last.ensures

pub returns-in_err-rows : goal.returns-in_err-rows
returns-in_err-rows t c =
    let p = err_from_is_err_and c.from_residual.result c.from_residual.ensures.1 in
    rw (p.1, p.2) (last_stops c.args.k (c.args.k - 1) c.args.start.now (omega arith) _ c.in_err-rows.ensures.value)

pub returns : goal.returns
returns t c = last_comes c.args.k (c.args.k - 1) c.args.start.now (omega arith) c.as_slice.result.now c.last_contradiction.result (c.in_ok-rows.ensures.value.0, c.as_slice.ensures ∙ c.in_ok-rows.ensures.value.1) c.last_contradiction.ensures
