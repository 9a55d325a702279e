use Rattle.pc_entail.proofs.Settling as settling
use Rattle.pc_entail.proofs.Leaving as leaving
use Rattle.pc_entail.proofs.laws.answers_are_functions.Goals as goal

pub returns : goal.returns
returns c = record { settled = settling.settles_once; left = leaving.leaves_once }
