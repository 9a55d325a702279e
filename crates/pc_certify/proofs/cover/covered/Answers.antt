use Rattle.std.proofs.Common.{sym, subst, arith, ◌∙◌}
use Rattle.pc_rows.specs.Linear.{Linear, IsInRange}
use Rattle.pc_rows.specs.Joins.{is_at_most}
use Rattle.pc_flow.specs.Carry.{premises}
use Rattle.pc_replay.specs.Accepts.{Proves}
use Rattle.pc_certify.proofs.Covering.{alone_proves, covered_by, cover_is_found}
use Rattle.pc_certify.proofs.Positions.{position_within}
use Rattle.pc_certify.proofs.cover.covered.Goals as goal

pub returns-then-is_always : goal.returns-then-is_always
returns-then-is_always c =
    let all = premises c.args.origin.now.edge.now.what c.args.origin.now.rows.now in
    let fits = subst IsInRange c.requires.negation c.constant-in_range.ensures.row.in_range in
    subst (Proves all c.args.goal.now) (sym c.alone.ensures) (alone_proves all c.args.goal.now (sym c.if-is_always.ensures) fits)

pub premise-requires : goal.premise-requires
premise-requires c =
    let all = premises c.args.origin.now.edge.now.what c.args.origin.now.rows.now in
    let within = position_within (λ (r : Linear). is_at_most r c.args.goal.now) 0 all c.in-Some.i (sym c.first_cover.ensures.first ∙ c.in-Some.is) in
    omega (arith, within.1)

pub unreachable-requires : goal.unreachable-requires
unreachable-requires c =
    let all = premises c.args.origin.now.edge.now.what c.args.origin.now.rows.now in
    cover_is_found all c.args.goal.now c.requires.covers (sym c.if-is_always.ensures) (sym c.first_cover.ensures.first ∙ c.in-None.is)

pub returns : goal.returns
returns c =
    let all = premises c.args.origin.now.edge.now.what c.args.origin.now.rows.now in
    covered_by all c.args.goal.now c.args.negated.now c.premise.result.now c.in-Some.i c.by_premise.result c.requires.negation
    (sym c.first_cover.ensures.first ∙ c.in-Some.is) c.premise.ensures c.by_premise.ensures
