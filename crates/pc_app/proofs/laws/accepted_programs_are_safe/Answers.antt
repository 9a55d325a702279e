use Rattle.pc_app.proofs.Programs as proof
use Rattle.pc_app.proofs.laws.accepted_programs_are_safe.Goals as goal

pub returns : goal.returns
returns c = proof.accepted_programs_are_safe
