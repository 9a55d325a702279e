use Rattle.std.proofs.Common.{refl, sym, true≢false}
use Rattle.std.proofs.lemmas.Result.{err_from_is_err_and}
use Rattle.pc_json.proofs.Keys.{five_none, five_third, five_fourth, five_over, none_in}
use Rattle.pc_json.proofs.members.head_of.Goals as goal

pub returns-in_err-alternatives : goal.returns-in_err-alternatives
returns-in_err-alternatives c =
    let p = err_from_is_err_and c.from_residual.result c.from_residual.ensures.1 in
    rw (p.1, p.2) (c.in_err-alternatives.ensures.0, five_none c.in_err-alternatives.ensures.1)

pub returns-in_err-variables : goal.returns-in_err-variables
returns-in_err-variables c =
    let p = err_from_is_err_and c.from_residual-in_err-variables.result c.from_residual-in_err-variables.ensures.1 in
    rw (p.1, p.2) (c.in_err-variables.ensures.0, five_third c.in_ok-alternatives.ensures c.in_ok-edges.ensures c.in_ok-points.ensures c.in_err-variables.ensures.1)

pub returns-in_err-version : goal.returns-in_err-version
returns-in_err-version c =
    let p = err_from_is_err_and c.from_residual-in_err-version.result c.from_residual-in_err-version.ensures.1 in
    rw (p.1, p.2) (c.in_err-version.ensures.0, five_fourth c.in_ok-alternatives.ensures c.in_ok-edges.ensures c.in_ok-points.ensures c.in_ok-variables.ensures c.in_err-version.ensures.1)

pub returns : goal.returns
returns c = (
  refl,
  five_over c.in_ok-alternatives.ensures c.in_ok-edges.ensures c.in_ok-points.ensures c.in_ok-variables.ensures c.in_ok-version.ensures
      (λ e. true≢false (sym (c.if-is_empty.ensures.1 (none_in _ e)))),
)
