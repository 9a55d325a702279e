use Rattle.pc_rows.proofs.Values as values
use Rattle.pc_rows.proofs.laws.above_is_exact.Goals as goal

pub returns : goal.returns
returns c = values.above_is_exact
