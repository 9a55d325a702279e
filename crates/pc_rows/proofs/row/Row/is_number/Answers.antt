use Rattle.pc_rows.proofs.Reading.{number_is}
use Rattle.pc_rows.proofs.row.Row.is_number.Goals as goal

pub returns : goal.returns
returns c = number_is _ _ _ c.self.view_is c.self.invariant c.is_empty.result c.is_empty.ensures
