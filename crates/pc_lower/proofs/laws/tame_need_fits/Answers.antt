use Rattle.pc_lower.proofs.Tameness as proof
use Rattle.pc_lower.proofs.laws.tame_need_fits.Goals as goal

pub returns : goal.returns
returns c = proof.tame_need_fits
