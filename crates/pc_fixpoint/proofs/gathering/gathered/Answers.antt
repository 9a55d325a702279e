use Rattle.std.proofs.Common.{◌==◌, ℕ, subst, arith}
use Rattle.pc_flow.specs.Arc.{Arc}
use Rattle.pc_flow.specs.Incidence.{entering}
use Rattle.pc_domain.proofs.Folding.{remains_next, remains_none}
use Rattle.pc_domain.proofs.Picking.{picked_within, picked_there, picked_done}
use Rattle.pc_fixpoint.specs.Flowing.{After, Join}
use Rattle.pc_fixpoint.proofs.gathering.gathered.Goals as goal

pub edge-e-requires : goal.edge-e-requires
edge-e-requires g c =
    picked_within (λ (e : Arc). e.to == c.args.p) c.args.g.now.edges c.loop-k.k c.entering-numbers.result.now c.entering-numbers.ensures.numbers c.loop-k-test.true

pub loop-k-preserved : goal.loop-k-preserved
loop-k-preserved g c =
    let d = g.D.Forward in
    let edges = c.args.g.now.edges in
    let e = c.edge-e.result.now in
    let there = picked_there (λ (e : Arc). e.to == c.args.p) edges c.loop-k.k c.entering-numbers.result.now c.entering-numbers.ensures.numbers e c.loop-k-test.true c.edge-e.ensures in
    remains_next (After d) (Join d) (λ e. e.from) c.args.values.now (entering c.args.p edges) c.loop-k.k e c.loop-k.v c.in_ok-v-2.v c.in_ok-v.v
    there c.loop-k.invariant c.in_ok-v-2.ensures

pub returns : goal.returns
returns g c =
    let d = g.D.Forward in
    let edges = c.args.g.now.edges in
    let done = picked_done (λ (e : Arc). e.to == c.args.p) edges c.loop-k.k c.entering-numbers.result.now c.entering-numbers.ensures.numbers (omega arith) in
    let view = subst (λ (n : ℕ). d.says.nothing n (d.view c.in_ok-v.v)) c.variables.ensures.value c.in_ok-v.ensures.view in (
      c.in_ok-v.v,
      (c.in_ok-v.ensures.states, view),
      remains_none (After d) (Join d) (λ e. e.from) c.args.values.now (entering c.args.p edges) c.loop-k.k c.loop-k.v c.in_ok-v.v done c.loop-k.invariant,
    )
