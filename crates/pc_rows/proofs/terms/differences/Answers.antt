use Rattle.pc_rows.proofs.TermSums.{differences_iff}
use Rattle.pc_rows.proofs.terms.differences.Goals as goal

pub returns : goal.returns
returns c = differences_iff c.plus_multiple.result c.args.a.now c.args.b.now c.new.result c.requires.right c.new.ensures c.plus_multiple.ensures
