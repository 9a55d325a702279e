use Rattle.std.proofs.Common.{◌∙◌, arith}
use Rattle.pc_rows.proofs.Reading.{is_few, terms_count}
use Rattle.pc_rows.proofs.row.Row.terms.Goals as goal

pub returns-clause-value : goal.returns-clause-value
returns-clause-value c = c.len.ensures.value ∙ terms_count _ _ _ c.self.view_is c.self.invariant

pub returns-clause-most : goal.returns-clause-most
returns-clause-most c = omega (arith, c.len.ensures.value, is_few _ _ _ c.self.view_is c.self.invariant)
