use Rattle.pc_box.proofs.Ends as proof
use Rattle.pc_box.proofs.laws.cutting_is_exact.Goals as goal

pub returns : goal.returns
returns c = proof.cutting_is_exact
