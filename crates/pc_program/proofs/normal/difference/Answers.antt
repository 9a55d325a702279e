use Rattle.pc_rows.specs.Linear.{difference_of}
use Rattle.pc_rows.proofs.Ranges.{ok_fits, err_fits}
use Rattle.pc_program.specs.declared.normal.AffineFault.TheVariants.{Past}
use Rattle.pc_program.proofs.normal.difference.Goals as goal

pub returns-in-Ok : goal.returns-in-Ok
returns-in-Ok c = ok_fits (Past c.args.place) c.in-Ok.r (difference_of c.args.a.now c.args.b.now) c.in-Ok.ensures

pub returns-in-Err : goal.returns-in-Err
returns-in-Err c = err_fits (Past c.args.place) (difference_of c.args.a.now c.args.b.now) c.in-Err.ensures
