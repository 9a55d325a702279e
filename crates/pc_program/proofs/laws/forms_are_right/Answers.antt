use Rattle.pc_program.proofs.FormLemmas.{forms_are_right}
use Rattle.pc_program.proofs.laws.forms_are_right.Goals as goal

pub returns : goal.returns
returns c = forms_are_right
