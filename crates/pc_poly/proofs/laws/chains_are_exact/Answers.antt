use Rattle.pc_poly.proofs.Chaining as proof
use Rattle.pc_poly.proofs.laws.chains_are_exact.Goals as goal

pub returns : goal.returns
returns c = proof.chains_are_exact
