use Rattle.std.proofs.Common.{◌∙◌, sym, refl}
use Rattle.std.proofs.lemmas.Result.{err_from_is_err_and}
use Rattle.pc_app.specs.Causes.{IsLost}
use Rattle.pc_app.proofs.BreachLemmas.{source_stops, is_unfit}
use Rattle.pc_app.proofs.breach.straight_in.Goals as goal

pub returns-in_err-program-clause-answered : goal.returns-in_err-program-clause-answered
returns-in_err-program-clause-answered g c =
    let p = err_from_is_err_and c.from_residual.result c.from_residual.ensures.1 in
    let held = g.S.Store.holding c.args.store.now c.args.name.now in
    rw (p.1, p.2) (source_stops held (IsLost held (g.S.Store.faults c.args.store.now) (g.S.Store.faults c.source_in.new.store)) c.in_err-program.field-0.0 c.in_err-program.ensures.answered)

pub returns-in_ok-unfit_line-in-Some-clause-answered :
    goal.returns-in_ok-unfit_line-in-Some-clause-answered
returns-in_ok-unfit_line-in-Some-clause-answered g c =
    is_unfit (g.S.Store.holding c.args.store.now c.args.name.now) c.in_ok-program.program c.in_ok-program.ensures.answered c.in-Some.unfit (sym c.in-Some.is ∙ c.unfit_of.ensures) _ _ refl
    c.in_ok-unfit_line-in-Some.ensures
