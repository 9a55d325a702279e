use Rattle.std.proofs.Common.{◌∙◌}
use Rattle.pc_lines.specs.Readers.{row_reader}
use Rattle.pc_lines.proofs.Repeats.{turn, pushed}
use Rattle.pc_lines.proofs.reading.rows.Goals as goal

pub rows-preserved : goal.rows-preserved
rows-preserved c =
    turn (λ _. row_reader c.args.variables) c.args.count c.rows.counter c.rows.rows c.rows.lines c.rows-test.true c.push.new.self c.in_ok-row.row c.row.new.self c.in_ok-row.ensures
    (pushed c.rows.rows c.push.new.self c.in_ok-row.row c.push.result c.push.ensures c.if-is_err.ensures.value)
    ∙ c.rows.invariant
