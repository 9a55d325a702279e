use Rattle.pc_json.proofs.SameValues.{read_back}
use Rattle.pc_json.proofs.laws.shown_is_read_back.Goals as goal

pub returns : goal.returns
returns c = read_back
