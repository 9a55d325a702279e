use Rattle.std.proofs.lemmas.Result.{IfOk-weaker}
use Rattle.pc_poly.specs.Polyhedra.{SaysAfter}
use Rattle.pc_poly.specs.Views.{poly_view, poly_of}
use Rattle.pc_poly.proofs.Viewing.{after_view}
use Rattle.pc_poly.proofs.member.PolyForward.after.Goals as goal

pub returns-clause-view : goal.returns-clause-view
returns-clause-view c =
    let v = c.args.self.now in
    let w = c.args.edge.now.what in
    IfOk-weaker c.over.result (λ new. SaysAfter v w new) (λ new. SaysAfter (poly_of (poly_view v)) w (poly_of (poly_view new))) (λ new h. after_view w v new h) c.over.ensures.view
