use Rattle.pc_lower.proofs.Meant as proof
use Rattle.pc_lower.proofs.laws.candidate_is_meant.Goals as goal

pub returns : goal.returns
returns c = proof.candidate_is_meant
