use Rattle.pc_rows.proofs.Farkas as farkas
use Rattle.pc_rows.proofs.laws.shown_is_met.Goals as goal

pub returns : goal.returns
returns c = farkas.shown_is_met
