use Rattle.pc_rows.proofs.Farkas as farkas
use Rattle.pc_rows.proofs.laws.refuted_is_not_shown.Goals as goal

pub returns : goal.returns
returns c = farkas.refuted_is_not_shown
