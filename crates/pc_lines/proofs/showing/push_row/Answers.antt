use Rattle.std.proofs.Common.{◌<◌, FitsSigned, length, arith, rules}
use Rattle.std.specs.Int.{w128}
use Rattle.std.proofs.lemmas.Int.{to_z-of_z}
use Rattle.pc_lines.proofs.Shown.{row_step}
use Rattle.pc_lines.proofs.showing.push_row.Goals as goal

pub variables-preserved : goal.variables-preserved
variables-preserved c =
    let r = c.args.r.now in
    let within : c.variables.v < length r.coefficients = omega (arith, c.constant.ensures.row.wide, c.requires, c.variables-test.true) in
    let fits : FitsSigned w128 c.coefficient.result = search rules in
    let added = simp to_z-of_z at c.in_ok-push_further.ensures in
    row_step r c.variables.v c.coefficient.result c.args.text.now c.variables.text c.push_further.new.text within c.coefficient.ensures.value c.variables.invariant added
