use Rattle.std.proofs.Common.{◌∙◌, ap, Ok}
use Rattle.pc_elim.specs.declared.decision.Answer.{Answer}
use Rattle.pc_poly.proofs.Keeping.{found_met}
use Rattle.pc_poly.proofs.showing.is_shown.Goals as goal

pub returns-in-Ok-Shown : goal.returns-in-Ok-Shown
returns-in-Ok-Shown c _ =
    found_met c.args.rows.now c.args.r.now c.entails-2.result c.in-Ok-Shown.field-0-0 (rw c.new.ensures at c.entails-2.ensures.evidence)
    (c.in-Ok-Shown.is ∙ ap (λ (a : Answer). Ok a) c.in-Ok-Shown.field-0-is)
