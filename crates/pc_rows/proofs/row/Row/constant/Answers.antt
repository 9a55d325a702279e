use Rattle.pc_rows.proofs.Reading.{is_row}
use Rattle.pc_rows.proofs.row.Row.constant.Goals as goal

pub returns-clause-row : goal.returns-clause-row
returns-clause-row c = is_row _ _ _ c.self.view_is c.self.invariant
