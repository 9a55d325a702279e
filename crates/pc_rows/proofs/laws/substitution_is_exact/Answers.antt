use Rattle.pc_rows.proofs.Carrying as carrying
use Rattle.pc_rows.proofs.laws.substitution_is_exact.Goals as goal

pub returns : goal.returns
returns c = carrying.substitution_is_exact
