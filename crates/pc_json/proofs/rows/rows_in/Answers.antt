use Rattle.std.proofs.Common.{arith}
use Rattle.std.proofs.lemmas.Result.{err_from_is_err_and}
use Rattle.pc_rows.specs.declared.rows.TheConstants.{ROWS}
use Rattle.pc_json.specs.Values.{of_row}
use Rattle.pc_json.specs.Kept.{AtMost, IsRowOver}
use Rattle.pc_json.proofs.Arrays.{array_err, refused}
use Rattle.pc_json.proofs.rows.rows_in.Goals as goal

pub returns-then-list-gt-ROWS : goal.returns-then-list-gt-ROWS
returns-then-list-gt-ROWS c = refused (IsRowOver c.args.variables) (of_row c.args.variables) (AtMost ROWS) c.args.list.now (λ le. absurd (omega (arith, le, c.if-list-gt-ROWS.true)))

pub returns-in_err-row : goal.returns-in_err-row
returns-in_err-row c =
    let p = err_from_is_err_and c.from_residual.result c.from_residual.ensures.1 in
    rw (p.1, p.2) (array_err (IsRowOver c.args.variables) (of_row c.args.variables) (AtMost ROWS) c.args.list.now c.loop-item.item-index c.item-item.result c.in_err-row.field-0.0 c.loop-item-test.true c.item-item.is c.in_err-row.ensures)
