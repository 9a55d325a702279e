use Rattle.pc_graph.proofs.Programs as proof
use Rattle.pc_graph.proofs.laws.paid_programs_are_safe.Goals as goal

pub returns : goal.returns
returns c = proof.paid_programs_are_safe
