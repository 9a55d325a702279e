use Rattle.std.proofs.Common.{◌<◌, ◌+◌, ◌∙◌, ap, arith, length, FitsSigned, rules}
use Rattle.std.specs.Int.{w128}
use Rattle.std.proofs.lemmas.Int.{to_z-of_z}
use Rattle.std.proofs.lemmas.Result.{err_from_is_err_and}
use Rattle.pc_rows.specs.Linear.{with_coefficient}
use Rattle.pc_json.proofs.RowNumbers.{begins, one_more, row_err}
use Rattle.pc_json.proofs.rows.with_coefficients.Goals as goal

pub variables-init : goal.variables-init
variables-init c = begins c.args.list.now c.args.variables c.args.row c.requires.long c.requires.constant

pub returns-in_err-coefficient : goal.returns-in_err-coefficient
returns-in_err-coefficient c =
    let p = err_from_is_err_and c.from_residual.result c.from_residual.ensures.1 in
    let within : c.variables.v + 1 < length c.args.list.now = omega (arith, c.requires.long, c.variables-test.true) in
    rw (p.1, p.2) (row_err c.args.list.now c.args.variables (c.variables.v + 1) c.index-list-v.result _ within c.index-list-v.is c.in_err-coefficient.ensures)

pub variables-preserved : goal.variables-preserved
variables-preserved c =
    let within : c.variables.v + 1 < length c.args.list.now = omega (arith, c.requires.long, c.variables-test.true) in
    let fits : FitsSigned w128 c.get.result = search rules in
    let row = simp to_z-of_z at c.with-row.ensures in
    one_more c.args.list.now c.variables.v c.variables.row c.with-row.result c.index-list-v.result c.in_ok-coefficient.coefficient within (omega (arith, c.requires.variables, c.variables-test.true)) c.index-list-v.is c.in_ok-coefficient.ensures
    (row ∙ ap (with_coefficient c.variables.row c.variables.v) c.get.ensures.value) c.variables.invariant
