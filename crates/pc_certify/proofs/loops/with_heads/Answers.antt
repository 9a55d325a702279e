use Rattle.pc_flow.specs.Shape.{NoHeads}
use Rattle.pc_lower.specs.Tame.{IsTame}
use Rattle.pc_certify.specs.Candidates.{of_heads}
use Rattle.pc_certify.proofs.Choosing.{found_complete, takes_is}
use Rattle.pc_certify.proofs.loops.with_heads.Goals as goal

pub with_found-requires-clause-complete : goal.with_found-requires-clause-complete
with_found-requires-clause-complete c =
    let g = c.args.g.now in
    found_complete g (of_heads g c.args.heads.now) (NoHeads g.points × IsTame g) c.in_ok-found.found c.in_ok-found.ensures

pub returns-clause-takes : goal.returns-clause-takes
returns-clause-takes c =
    let g = c.args.g.now in
    takes_is g (of_heads g c.args.heads.now) (NoHeads g.points × IsTame g) ⊥ (λ none. absurd none) (λ none fails. none)
    c.in_ok-found.found c.in_ok-found.ensures c.args.kept c.with_found.result c.with_found.ensures.takes
