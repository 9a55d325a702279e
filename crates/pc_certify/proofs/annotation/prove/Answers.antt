use Rattle.std.proofs.Common.{subst}
use Rattle.pc_flow.specs.Annotation.{Annotation}
use Rattle.pc_certify.specs.Proving.{AnnotatedIs}
use Rattle.pc_certify.proofs.Claimed.{found_rows, found_accepted, found_few, found_cause}
use Rattle.pc_certify.proofs.annotation.prove.Goals as goal

pub returns-clause-rows : goal.returns-clause-rows
returns-clause-rows c =
    let g = c.args.g.now in
    found_rows g c.args.annotation.now c.requires c.annotated.result (subst (λ (z : Annotation). AnnotatedIs g z c.annotated.result) c.in_ok-copy.ensures c.annotated.ensures)

pub returns-clause-accepted : goal.returns-clause-accepted
returns-clause-accepted c =
    let g = c.args.g.now in
    found_accepted g c.args.annotation.now c.requires c.annotated.result (subst (λ (z : Annotation). AnnotatedIs g z c.annotated.result) c.in_ok-copy.ensures c.annotated.ensures)

pub returns-clause-few : goal.returns-clause-few
returns-clause-few c =
    let g = c.args.g.now in
    found_few g c.args.annotation.now c.requires c.annotated.result (subst (λ (z : Annotation). AnnotatedIs g z c.annotated.result) c.in_ok-copy.ensures c.annotated.ensures)

pub returns-clause-cause : goal.returns-clause-cause
returns-clause-cause c =
    let g = c.args.g.now in
    found_cause g c.args.annotation.now c.requires c.annotated.result (subst (λ (z : Annotation). AnnotatedIs g z c.annotated.result) c.in_ok-copy.ensures c.annotated.ensures)
