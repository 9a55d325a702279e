use Rattle.std.proofs.Common.{◌∙◌, sym}
use Rattle.pc_back.proofs.Same.{at_most_both, at_most_itself}
use Rattle.pc_back.proofs.narrowing.are_same.Goals as goal

pub returns-then-is_at_most : goal.returns-then-is_at_most
returns-then-is_at_most c = (
  (λ h. at_most_both c.args.a.now c.args.b.now (sym c.is_at_most.ensures ∙ c.if-is_at_most.true) (sym c.is_at_most-then-is_at_most.ensures ∙ h)),
  (λ same. c.is_at_most-then-is_at_most.ensures ∙ at_most_itself c.args.b.now c.args.a.now (sym same)),
)

pub returns-else-is_at_most : goal.returns-else-is_at_most
returns-else-is_at_most c = (
  (λ h. absurd (cc)),
  (λ same. sym c.if-is_at_most.false ∙ c.is_at_most.ensures ∙ at_most_itself c.args.a.now c.args.b.now same),
)
