use Rattle.std.proofs.Common.{sym, subst, Ok}
use Rattle.pc_flow.specs.Annotation.{Annotation}
use Rattle.pc_flow.specs.Shape.{NoHeads}
use Rattle.pc_lower.specs.Tame.{IsTame}
use Rattle.pc_lower.proofs.Annotations.{none_long, none_over}
use Rattle.pc_certify.specs.Candidates.{of_need, of_heads, AreHeads}
use Rattle.pc_certify.specs.Inferring.{FoundIs}
use Rattle.pc_certify.proofs.Choosing.{choice_is, found_complete}
use Rattle.pc_certify.proofs.Promises.{tame_need_is_proved}
use Rattle.pc_certify.proofs.choice.choice_of_need.Goals as goal

pub of_heads-requires : goal.of_heads-requires
of_heads-requires c =
    let g = c.args.g.now in
    subst (AreHeads g) (sym c.in_ok-heads.ensures) (record { long = none_long g.points; over = none_over g.variables g.points })

pub choice_of-requires : goal.choice_of-requires
choice_of-requires c =
    let g = c.args.g.now in
    found_complete g (of_heads g c.in_ok-heads.heads) (NoHeads g.points × IsTame g) c.in_ok-found.found c.in_ok-found.ensures

pub returns : goal.returns
returns c =
    let g = c.args.g.now in
    let found = subst (λ (z : Annotation). FoundIs g (of_heads g z) (NoHeads g.points × IsTame g) (Ok c.in_ok-found.found)) c.in_ok-heads.ensures c.in_ok-found.ensures in
    choice_is g (of_need g) (NoHeads g.points × IsTame g) (IsTame g) (λ tame. (c.requires, tame)) (tame_need_is_proved g c.requires) c.in_ok-found.found found c.choice_of.result c.choice_of.ensures
