use Rattle.pc_json.proofs.RowNumbers.{no_row}
use Rattle.pc_json.proofs.rows.row_in.Goals as goal

pub returns-then-list-variables : goal.returns-then-list-variables
returns-then-list-variables c = no_row c.args.list.now c.args.variables c.requires c.if-list-variables.true
