use Rattle.pc_entail.proofs.Removing as removing
use Rattle.pc_entail.proofs.laws.tests_are_kept.Goals as goal

pub returns : goal.returns
returns c = removing.tests_are_kept
