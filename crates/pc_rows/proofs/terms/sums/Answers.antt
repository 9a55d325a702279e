use Rattle.pc_rows.proofs.TermSums.{sums_iff}
use Rattle.pc_rows.proofs.terms.sums.Goals as goal

pub returns : goal.returns
returns c = sums_iff c.plus_multiple.result c.args.a.now c.args.b.now c.new.result c.requires.right c.new.ensures c.plus_multiple.ensures
