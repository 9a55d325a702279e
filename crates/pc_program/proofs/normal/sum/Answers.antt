use Rattle.pc_rows.specs.Linear.{sum_of}
use Rattle.pc_rows.proofs.Ranges.{ok_fits, err_fits}
use Rattle.pc_program.specs.declared.normal.AffineFault.TheVariants.{Past}
use Rattle.pc_program.proofs.normal.sum.Goals as goal

pub returns-in-Ok : goal.returns-in-Ok
returns-in-Ok c = ok_fits (Past c.args.place) c.in-Ok.r (sum_of c.args.a.now c.args.b.now) c.in-Ok.ensures

pub returns-in-Err : goal.returns-in-Err
returns-in-Err c = err_fits (Past c.args.place) (sum_of c.args.a.now c.args.b.now) c.in-Err.ensures
