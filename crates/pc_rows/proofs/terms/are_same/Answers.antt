use Rattle.std.proofs.Common.{◌∙◌}
use Rattle.pc_rows.specs.contracts.terms.TermPartialEq.TheImpl.{eq-value}
use Rattle.pc_rows.proofs.Same.{is_same_term, same_coefficients, same_term}
use Rattle.pc_rows.proofs.terms.are_same.Goals as goal

pub returns : goal.returns
returns c = c.eq.ensures ∙ same_coefficients eq-value.it same_term is_same_term c.args.a.now c.args.b.now c.requires.left c.requires.right
