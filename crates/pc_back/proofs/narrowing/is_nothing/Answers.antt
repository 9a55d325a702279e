use Rattle.std.proofs.Common.{◌∙◌, sym}
use Rattle.pc_rows.specs.Substitution.{never_row}
use Rattle.pc_back.proofs.Same.{only_row}
use Rattle.pc_back.proofs.narrowing.is_nothing.Goals as goal

pub returns-then-len-eq1 : goal.returns-then-len-eq1
returns-then-len-eq1 c =
    let one = only_row c.args.rows.now c.at.result.now never_row (sym c.len.ensures.value ∙ c.if-len-eq1.true) c.at.ensures in
    ((λ h. one.1 (c.is_never.ensures.0 h)), (λ is. c.is_never.ensures.1 (one.0 is)))
