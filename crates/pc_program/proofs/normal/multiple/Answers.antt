use Rattle.std.proofs.Common.{rules, FitsSigned}
use Rattle.std.specs.Int.{w128}
use Rattle.std.proofs.lemmas.Int.{to_z-of_z}
use Rattle.pc_rows.specs.Linear.{scaled_by}
use Rattle.pc_rows.proofs.Ranges.{ok_fits, err_fits}
use Rattle.pc_program.specs.declared.normal.AffineFault.TheVariants.{Past}
use Rattle.pc_program.proofs.normal.multiple.Goals as goal

pub returns-in-Ok : goal.returns-in-Ok
returns-in-Ok c =
    let f : FitsSigned w128 c.args.k = search rules in
    ok_fits (Past c.args.place) c.in-Ok.r (scaled_by c.args.k c.args.r.now) (simp to_z-of_z at c.in-Ok.ensures)

pub returns-in-Err : goal.returns-in-Err
returns-in-Err c =
    let f : FitsSigned w128 c.args.k = search rules in
    err_fits (Past c.args.place) (scaled_by c.args.k c.args.r.now) (simp to_z-of_z at c.in-Err.ensures)
