use Rattle.pc_entail.proofs.Finding as finding
use Rattle.pc_entail.proofs.laws.shown_rows_are_met.Goals as goal

pub returns : goal.returns
returns c = finding.shown_rows_are_met
