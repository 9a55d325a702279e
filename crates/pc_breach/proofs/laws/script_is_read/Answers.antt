use Rattle.pc_breach.proofs.Texts as proof
use Rattle.pc_breach.proofs.laws.script_is_read.Goals as goal

pub returns : goal.returns
returns c = proof.script_is_read
