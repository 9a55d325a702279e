use Rattle.std.proofs.Common.{ap, ◌∙◌}
use Rattle.pc_rows.specs.Terms.{lookup}
use Rattle.pc_rows.proofs.Reading.{is_row, coefficient_is}
use Rattle.pc_rows.proofs.row.Row.number_at.Goals as goal

pub returns-clause-value : goal.returns-clause-value
returns-clause-value c =
    c.lookup.ensures ∙ ap (λ ts. lookup ts c.args.v) c.as_slice.ensures ∙ coefficient_is _ _ _ c.self.view_is c.self.invariant c.args.v c.requires

pub returns-clause-row : goal.returns-clause-row
returns-clause-row c = is_row _ _ _ c.self.view_is c.self.invariant
