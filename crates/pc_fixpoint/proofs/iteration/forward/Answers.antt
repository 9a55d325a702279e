use Rattle.std.proofs.Common.{◌≡◌, ℕ, ◌+◌, ◌-◌, ◌*◌, ◌^◌, min, ◌<◌, ◌≤◌, length, map, arith, rules, subst, sym}
use Rattle.std.specs.Prelude.{◌⊎◌}
use Rattle.pc_domain.specs.declared.limits.TheConstants.{PARTS}
use Rattle.pc_domain.specs.Fold.{IsFold}
use Rattle.pc_domain.specs.Values.{HasAt, IsConsistent}
use Rattle.pc_fixpoint.specs.Flowing.{heads}
use Rattle.pc_fixpoint.specs.Rounds.{weight}
use Rattle.pc_fixpoint.proofs.Filling.{filled_folds}
use Rattle.pc_fixpoint.proofs.Marking.{tells_first, tells_turned, turned_settled}
use Rattle.pc_fixpoint.proofs.Reaching.{all_consistent, all_reached}
use Rattle.pc_fixpoint.proofs.Turning.{weight_most, left_falls}
use Rattle.pc_fixpoint.proofs.iteration.forward.Goals as goal

rises : (round next top : ℕ) → top < 2 ^ 32 → next ≡ min (round + 1) (2 ^ 32 - 1) → (round < next) ⊎ (top ≤ next)
rises round next top low is = grind arith

pub rounds-init : goal.rounds-init
rounds-init g c = tells_first g.D.Forward c.args.g.now c.in_ok-values.values c.in_ok-moved.moved c.in_ok-moved.ensures.long c.in_ok-moved.ensures.each c.in_ok-values.ensures

pub refill-requires : goal.refill-requires
refill-requires g c =
    tells_turned g.D.Forward c.args.g.now c.points-points.ensures.kept c.rounds.round c.rounds.values c.rounds.moved c.in_ok-turn.field-0 c.turn.new.values c.turn.new.moved
    c.rounds.invariant c.in_ok-turn.ensures

pub rounds-smaller : goal.rounds-smaller
rounds-smaller g c =
    let d = g.D.Forward in
    let flow = c.args.g.now in
    let marks = heads flow in
    let old = c.rounds.values in
    let new = c.refill.new.values in
    let same : weight d.parts marks new ≡ weight d.parts marks c.turn.new.values = c.in_ok-refill.ensures.weight in
    let top : d.TOP_ROUND < 2 ^ 32 = search rules in
    let after_most = weight_most d.parts g.met.D.Forward.few marks new in
    left_falls d.TOP_ROUND c.rounds.round c.saturating_add-round.result (PARTS * length marks) (weight d.parts marks old) (weight d.parts marks new)
    after_most (λ late. let f = c.in_ok-turn.ensures.fewer c.if-branch.true late in omega arith) (rises c.rounds.round c.saturating_add-round.result d.TOP_ROUND top c.saturating_add-round.ensures)

pub returns-clause-consistent : goal.returns-clause-consistent
returns-clause-consistent g c =
    let d = g.D.Forward in
    let flow = c.args.g.now in
    let old = c.rounds.values in
    let turned = turned_settled d flow c.rounds.round old c.in_ok-turn.field-0 c.turn.new.values c.turn.new.moved c.if-branch.false c.in_ok-turn.ensures in
    subst (λ (z : _). IsConsistent d.has flow z) (sym turned.0) (all_consistent d flow c.points-points.ensures.kept old c.rounds.invariant.filled turned.1)

pub returns-clause-reached : goal.returns-clause-reached
returns-clause-reached g c =
    let d = g.D.Forward in
    let flow = c.args.g.now in
    let old = c.rounds.values in
    let turned = turned_settled d flow c.rounds.round old c.in_ok-turn.field-0 c.turn.new.values c.turn.new.moved c.if-branch.false c.in_ok-turn.ensures in
    let graph = c.points-points.ensures.kept in
    let filled = c.rounds.invariant.filled in
    λ p s reach. subst (λ (z : _). HasAt d.has z p s) (sym turned.0) (all_reached d flow graph old filled (all_consistent d flow graph old filled turned.1) p s reach)

pub returns-clause-folded : goal.returns-clause-folded
returns-clause-folded g c =
    let d = g.D.Forward in
    let flow = c.args.g.now in
    let same = (c.in_ok-turn.ensures.none c.if-branch.false).0 in
    λ none. subst (λ (z : _). IsFold d.says flow (map d.view z)) (sym same) (filled_folds d flow c.points-points.ensures.kept c.rounds.values none c.rounds.invariant.filled)
