use Rattle.std.proofs.Common.{List, [], ◌∷◌, ◌++◌, sym, ap, subst, ◌∙◌}
use Rattle.pc_certificate.specs.declared.certificate.Annotated.{Annotated}
use Rattle.pc_certify.specs.Inferring.{AreAlternatives}
use Rattle.pc_certify.proofs.Keeping.{need_taken, need_not_taken}
use Rattle.pc_certify.proofs.inference.of_need.Goals as goal

pub returns-in_ok-push-in-Some : goal.returns-in_ok-push-in-Some
returns-in_ok-push-in-Some c =
    let g = c.args.g.now in
    let one = c.in_ok-push-in-Some.ensures ∙ ap (λ (z : List Annotated). z ++ c.in-Some.a ∷ []) c.new-all.ensures in
    subst (AreAlternatives g) (sym one) (need_taken g c.requires c.in_ok-a.field-0 c.in-Some.a c.in-Some.is c.in_ok-a.ensures)

pub returns-in-None : goal.returns-in-None
returns-in-None c =
    let g = c.args.g.now in
    subst (AreAlternatives g) (sym c.new-all.ensures) (need_not_taken g c.requires c.in_ok-a.field-0 c.in-None.is c.in_ok-a.ensures)
