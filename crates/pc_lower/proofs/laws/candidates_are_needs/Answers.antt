use Rattle.pc_lower.proofs.Unlooped as proof
use Rattle.pc_lower.proofs.laws.candidates_are_needs.Goals as goal

pub returns : goal.returns
returns c = proof.candidates_are_needs
