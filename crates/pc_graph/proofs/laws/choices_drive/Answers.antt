use Rattle.pc_graph.proofs.Driving as proof
use Rattle.pc_graph.proofs.laws.choices_drive.Goals as goal

pub returns : goal.returns
returns c = proof.choices_drive
