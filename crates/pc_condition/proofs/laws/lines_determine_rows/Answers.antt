use Rattle.pc_condition.proofs.Lines.{lines_determine_rows as proved}
use Rattle.pc_condition.proofs.laws.lines_determine_rows.Goals as goal

pub returns : goal.returns
returns c = proved
