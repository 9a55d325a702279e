use Rattle.pc_rows.proofs.Values as values
use Rattle.pc_rows.proofs.laws.negation_is_exact.Goals as goal

pub returns : goal.returns
returns c = values.negation_is_exact
