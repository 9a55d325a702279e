use Rattle.pc_rows.proofs.TermSums.{opposites_iff}
use Rattle.pc_rows.proofs.terms.opposites.Goals as goal

pub returns : goal.returns
returns c = opposites_iff c.products.result c.args.b.now c.new.result c.new.ensures c.products.ensures
