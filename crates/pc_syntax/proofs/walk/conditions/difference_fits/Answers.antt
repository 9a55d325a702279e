use Rattle.pc_rows.specs.Linear.{difference_of}
use Rattle.pc_syntax.proofs.FitLemmas.{ok_fits_both, err_fits_none}
use Rattle.pc_syntax.proofs.walk.conditions.difference_fits.Goals as goal

pub returns-in-Ok : goal.returns-in-Ok
returns-in-Ok c = ok_fits_both c.in-Ok.r (difference_of c.args.a.now c.args.b.now) c.negation_fits.result c.in-Ok.ensures c.negation_fits.ensures

pub returns-in-Err : goal.returns-in-Err
returns-in-Err c = err_fits_none (difference_of c.args.a.now c.args.b.now) c.in-Err.ensures
