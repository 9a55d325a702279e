use Rattle.pc_condition.proofs.Lines.{text_determines_condition as proved}
use Rattle.pc_condition.proofs.laws.text_determines_condition.Goals as goal

pub returns : goal.returns
returns c = proved
