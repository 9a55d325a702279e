use Rattle.pc_box.proofs.Exactly as proof
use Rattle.pc_box.proofs.laws.boxes_back_are_exact.Goals as goal

pub returns : goal.returns
returns c = proof.boxes_back_are_exact
