use Rattle.std.proofs.Common.{Result, sym, subst}
use Rattle.std.proofs.lemmas.Result.{err_from_is_err_and}
use Rattle.pc_rows.specs.declared.number.Past.{Past}
use Rattle.pc_entail.specs.Composing.{PartsAre}
use Rattle.pc_entail.proofs.Composing.{adding_next, adding_fails}
use Rattle.pc_entail.proofs.composition.add.Goals as goal

pub returns-in_err-add_part : goal.returns-in_err-add_part
returns-in_err-add_part c =
    let p = err_from_is_err_and c.from_residual.result c.from_residual.ensures.1 in
    subst (λ (z : Result (Unit {0}) Past). PartsAre c.args.times c.args.place c.args.premises.now c.args.parts.now z c.add_part.new.premises) (sym p.1)
    (adding_fails c.args.times c.args.place c.args.premises.now c.args.parts.now c.loop-i.i c.loop-i.premises c.add_part.new.premises c.at.result _ c.at.ensures c.loop-i.invariant c.in_err-add_part.ensures)

pub loop-i-preserved : goal.loop-i-preserved
loop-i-preserved c = adding_next c.args.times c.args.place c.args.premises.now c.args.parts.now c.loop-i.i c.loop-i.premises c.add_part.new.premises c.at.result c.at.ensures c.loop-i.invariant c.in_ok-add_part.ensures
