use Rattle.pc_json.proofs.SameValues.{value_determines}
use Rattle.pc_json.proofs.laws.value_determines_certificate.Goals as goal

pub returns : goal.returns
returns c = value_determines
