use Rattle.pc_cert.proofs.Meaning.{means, only}
use Rattle.pc_cert.proofs.reading.read_certificate.Goals as goal

pub returns-clause-means : goal.returns-clause-means
returns-clause-means c = means c.args.src.now c.new.result c.whole.result c.new.ensures c.whole.ensures

pub returns-clause-only : goal.returns-clause-only
returns-clause-only c = only c.args.src.now c.new.result c.whole.result c.new.ensures c.whole.ensures
