use Rattle.pc_app.proofs.Programs as proof
use Rattle.pc_app.proofs.laws.infer_is_exact.Goals as goal

pub returns : goal.returns
returns c = proof.infer_is_exact
