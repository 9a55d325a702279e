use Rattle.pc_entail.proofs.Removing as removing
use Rattle.pc_entail.proofs.laws.reductions_are_equal.Goals as goal

pub returns : goal.returns
returns c = removing.reductions_are_equal
