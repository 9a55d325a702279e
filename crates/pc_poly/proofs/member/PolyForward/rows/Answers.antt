use Rattle.std.proofs.Common.{◌≡◌, ◌∙◌}
use Rattle.std.proofs.lemmas.Result.{IfOk-weaker}
use Rattle.pc_poly.specs.Views.{poly_view, poly_says}
use Rattle.pc_poly.proofs.Viewing.{rows_view}
use Rattle.pc_poly.proofs.member.PolyForward.rows.Goals as goal

pub returns-clause-view : goal.returns-clause-view
returns-clause-view c =
    let v = c.args.self.now in
    IfOk-weaker c.items_of.result (λ items. items ≡ c.in_ok-rows.rows) (λ items. poly_says.rows (poly_view v) items)
    (λ items is. is ∙ c.in_ok-rows.ensures.value ∙ rows_view v) c.items_of.ensures
