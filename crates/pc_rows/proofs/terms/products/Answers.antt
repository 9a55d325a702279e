use Rattle.std.proofs.Common.{[], refl}
use Rattle.pc_rows.proofs.TermSums.{products_iff}
use Rattle.pc_rows.proofs.terms.products.Goals as goal

pub returns : goal.returns
returns c = products_iff c.plus_multiple.result [] c.args.b.now c.args.k refl c.plus_multiple.ensures
