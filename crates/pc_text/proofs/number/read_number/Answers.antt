use Rattle.std.proofs.Common.{subst, sym, ◌∙◌}
use Rattle.pc_text.specs.Numerals.{Reads}
use Rattle.pc_text.proofs.NumeralReads.{reads, back}
use Rattle.pc_text.proofs.number.read_number.Goals as goal

pub returns-clause-reads : goal.returns-clause-reads
returns-clause-reads c = subst (Reads c.args.src.now c.args.at) (sym c.read_at.ensures.computed) (reads c.args.src.now c.args.at)

pub returns-clause-back : goal.returns-clause-back
returns-clause-back c n rest e next r = c.read_at.ensures.computed ∙ back c.args.src.now c.args.at n rest e next r
