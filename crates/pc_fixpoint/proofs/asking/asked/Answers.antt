use Rattle.std.proofs.Common.{◌==◌, ℕ, subst, arith}
use Rattle.pc_flow.specs.Arc.{Arc}
use Rattle.pc_flow.specs.Incidence.{leaving}
use Rattle.pc_domain.proofs.Folding.{remains_next, remains_none}
use Rattle.pc_domain.proofs.Picking.{picked_within, picked_there, picked_done}
use Rattle.pc_fixpoint.specs.Ebbing.{Before, Both}
use Rattle.pc_fixpoint.proofs.asking.asked.Goals as goal

pub edge-e-requires : goal.edge-e-requires
edge-e-requires g c =
    picked_within (λ (e : Arc). e.from == c.args.p) c.args.g.now.edges c.loop-k.k c.leaving-numbers.result.now c.leaving-numbers.ensures.numbers c.loop-k-test.true

pub loop-k-preserved : goal.loop-k-preserved
loop-k-preserved g c =
    let d = g.B.Backward in
    let edges = c.args.g.now.edges in
    let e = c.edge-e.result.now in
    let there = picked_there (λ (e : Arc). e.from == c.args.p) edges c.loop-k.k c.leaving-numbers.result.now c.leaving-numbers.ensures.numbers e c.loop-k-test.true c.edge-e.ensures in
    remains_next (Before d) (Both d) (λ e. e.to) c.args.values.now (leaving c.args.p edges) c.loop-k.k e c.loop-k.v c.in_ok-v-2.v c.in_ok-v.v
    there c.loop-k.invariant c.in_ok-v-2.ensures

pub returns : goal.returns
returns g c =
    let d = g.B.Backward in
    let edges = c.args.g.now.edges in
    let done = picked_done (λ (e : Arc). e.from == c.args.p) edges c.loop-k.k c.leaving-numbers.result.now c.leaving-numbers.ensures.numbers (omega arith) in
    let view = subst (λ (n : ℕ). d.says.everything n (d.view c.in_ok-v.v)) c.variables.ensures.value c.in_ok-v.ensures.view in (
      c.in_ok-v.v,
      (c.in_ok-v.ensures.states, view),
      remains_none (Before d) (Both d) (λ e. e.to) c.args.values.now (leaving c.args.p edges) c.loop-k.k c.loop-k.v c.in_ok-v.v done c.loop-k.invariant,
    )
