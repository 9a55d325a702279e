use Rattle.pc_breach.proofs.Meaning as proof
use Rattle.pc_breach.proofs.laws.runs_are_meant.Goals as goal

pub returns : goal.returns
returns c = proof.runs_are_meant
