use Rattle.pc_rows.proofs.Joining as joining
use Rattle.pc_rows.proofs.laws.join_is_both.Goals as goal

pub returns : goal.returns
returns c = joining.join_is_both
