use Rattle.pc_breach.proofs.Fitting as proof
use Rattle.pc_breach.proofs.laws.choices_are_fit.Goals as goal

pub returns : goal.returns
returns c = proof.choices_are_fit
