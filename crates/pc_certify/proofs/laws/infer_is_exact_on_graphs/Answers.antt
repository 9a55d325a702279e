use Rattle.pc_certify.proofs.Exactness as exactness
use Rattle.pc_certify.proofs.laws.infer_is_exact_on_graphs.Goals as goal

pub returns : goal.returns
returns c = exactness.infer_is_exact_on_graphs
