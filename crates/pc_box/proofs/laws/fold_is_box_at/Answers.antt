use Rattle.pc_box.proofs.Answering as proof
use Rattle.pc_box.proofs.laws.fold_is_box_at.Goals as goal

pub returns : goal.returns
returns c = record { fold = proof.fold_is_box_at; rows = proof.rows_are_box_rows }
