use Rattle.std.proofs.Common.{◌∙◌, ◌+◌, ◌-◌, ap, FitsSigned, rules}
use Rattle.std.specs.Int.{w128}
use Rattle.std.proofs.lemmas.Int.{to_z-of_z}
use Rattle.pc_rows.specs.Linear.{with_coefficient}
use Rattle.pc_lines.specs.LineReaders.{row_from}
use Rattle.pc_lines.proofs.LineSteps.{row_more}
use Rattle.pc_lines.proofs.row_lines.row.Goals as goal

pub variables-preserved : goal.variables-preserved
variables-preserved c =
    let fits : FitsSigned w128 c.get-in-variables.result = search rules in
    let row = simp to_z-of_z at c.with-row.ensures in
    ap (λ r. row_from c.args.number (c.variables.v + 1) (c.args.variables - (c.variables.v + 1)) r c.next_number-in-variables.new.words) (row ∙ ap (with_coefficient c.variables.row c.variables.v) c.get-in-variables.ensures.value)
    ∙ row_more c.args.variables c.variables.v c.args.number c.variables.row c.in_ok-coefficient.coefficient c.variables.words c.next_number-in-variables.new.words c.variables-test.true c.in_ok-coefficient.ensures
    ∙ c.variables.invariant
