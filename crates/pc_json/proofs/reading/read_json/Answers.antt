use Rattle.serde_json.specs.View.{view}
use Rattle.pc_json.proofs.Whole.{means_of}
use Rattle.pc_json.proofs.reading.read_json.Goals as goal

pub returns-in-Ok : goal.returns-in-Ok
returns-in-Ok c = means_of c.args.src.now (view c.in-Ok.value) c.certificate_of.result c.in-Ok.ensures.ok c.certificate_of.ensures
