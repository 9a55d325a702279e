use Rattle.pc_rows.proofs.Joining as joining
use Rattle.pc_rows.proofs.laws.covered_is_met.Goals as goal

pub returns : goal.returns
returns c = joining.covered_is_met
