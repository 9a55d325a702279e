use Rattle.std.proofs.Common.{ap, ◌∙◌}
use Rattle.pc_rows.specs.Terms.{dense}
use Rattle.pc_rows.proofs.TermLists.{dense_none}
use Rattle.pc_rows.proofs.terms.no_terms.Goals as goal

pub returns-clause-value : goal.returns-clause-value
returns-clause-value c = ap dense c.new.ensures.items ∙ dense_none
