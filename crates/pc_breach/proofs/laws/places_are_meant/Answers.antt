use Rattle.pc_breach.proofs.Seeking as proof
use Rattle.pc_breach.proofs.laws.places_are_meant.Goals as goal

pub returns : goal.returns
returns c = proof.places_are_meant
