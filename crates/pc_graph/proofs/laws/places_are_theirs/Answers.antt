use Rattle.pc_graph.proofs.Places as proof
use Rattle.pc_graph.proofs.laws.places_are_theirs.Goals as goal

pub returns : goal.returns
returns c = proof.places_are_theirs
