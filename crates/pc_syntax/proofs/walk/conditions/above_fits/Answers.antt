use Rattle.pc_rows.specs.Linear.{above_of}
use Rattle.pc_syntax.proofs.FitLemmas.{ok_fits_both, err_fits_none}
use Rattle.pc_syntax.proofs.walk.conditions.above_fits.Goals as goal

pub returns-in-Ok : goal.returns-in-Ok
returns-in-Ok c = ok_fits_both c.in-Ok.r (above_of c.args.a.now c.args.b.now) c.negation_fits.result c.in-Ok.ensures c.negation_fits.ensures

pub returns-in-Err : goal.returns-in-Err
returns-in-Err c = err_fits_none (above_of c.args.a.now c.args.b.now) c.in-Err.ensures
