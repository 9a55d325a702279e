use Rattle.std.proofs.lemmas.Result.{on_ok_weaker}
use Rattle.pc_show.proofs.ExprTexts.{name_done, neg_done, sum_done, mul_done}
use Rattle.pc_show.proofs.showing.exprs.+push_expr.Goals as goal

pub returns-in-Name : goal.returns-in-Name
returns-in-Name t c =
    on_ok_weaker c.push_all.result (λ h. name_done c.args.names.now.names c.args.e.now c.args.level c.in-Name.v c.at.result.now _ _ c.in-Name.is c.at.ensures h) c.push_all.ensures.added

pub returns-in_ok-push_expr-in-Neg : goal.returns-in_ok-push_expr-in-Neg
returns-in_ok-push_expr-in-Neg t c =
    on_ok_weaker c.close.result
    (λ h. neg_done c.args.names.now.names c.args.e.now c.args.level c.wraps_negation-wraps.result _ _ c.get.ensures _ _ _ _ _ _ c.in-Neg.is c.wraps_negation-wraps.ensures
    c.in_ok-open-in-Neg.ensures c.in_ok-push_all-in-Neg.ensures.added c.in_ok-push_expr-in-Neg.ensures h) c.close.ensures

pub returns-in_ok-push_expr-in-Add-2 : goal.returns-in_ok-push_expr-in-Add-2
returns-in_ok-push_expr-in-Add-2 t c =
    on_ok_weaker c.close-in-Add.result
    (λ h. sum_done c.args.names.now.names c.args.e.now c.args.level c.wraps_sum-wraps.result _ _ c.get-in-Add.ensures _ _ _ _ _ _ _ _ c.get-in-Add-2.ensures c.in-Add.is
    c.wraps_sum-wraps.ensures c.in_ok-open-in-Add.ensures c.in_ok-push_expr-in-Add.ensures c.in_ok-push_sign-in-Add.ensures c.in_ok-push_expr-in-Add-2.ensures h) c.close-in-Add.ensures

pub returns-in_ok-push_expr-in-Mul-2 : goal.returns-in_ok-push_expr-in-Mul-2
returns-in_ok-push_expr-in-Mul-2 t c =
    on_ok_weaker c.close-in-Mul.result
    (λ h. mul_done c.args.names.now.names c.args.e.now c.args.level c.wraps_product-wraps.result _ _ c.get-in-Mul.ensures _ _ _ _ _ _ _ _ c.get-in-Mul-2.ensures _ c.in-Mul.is
    c.wraps_product-wraps.ensures c.in_ok-open-in-Mul.ensures c.in_ok-push_expr-in-Mul.ensures c.in_ok-push_all-in-Mul.ensures.added c.in_ok-push_expr-in-Mul-2.ensures h) c.close-in-Mul.ensures
