use Rattle.std.proofs.Common.{◌≡◌, ℕ, ◌+◌, ◌-◌, ◌^◌, ◌<◌, ◌≤◌, min, Bool, false, arith, rules, subst}
use Rattle.pc_flow.proofs.Lists.{each_got}
use Rattle.pc_fixpoint.specs.Sweeps.{Swept, left}
use Rattle.pc_fixpoint.proofs.Closing.{swept_consistent, swept_folds, consistent_is_safe}
use Rattle.pc_fixpoint.proofs.recession.backward.Goals as goal

falls : (last round next before after : ℕ) → after ≤ before → (last ≤ round → after < before) → last < 2 ^ 32 → next ≡ min (round + 1) (2 ^ 32 - 1) →
    (last - next) + after < (last - round) + before
falls last round next before after few fewer low is = grind arith

pub rounds-init : goal.rounds-init
rounds-init g c = record {
  long = c.in_ok-values.ensures;
  marks = c.in_ok-spent.ensures.long;
  empty = λ p is. let e = each_got (λ b. b ≡ false) c.in_ok-spent.spent p _ c.in_ok-spent.ensures.each is in absurd (cc);
}

pub rounds-smaller : goal.rounds-smaller
rounds-smaller g c =
    let d = g.B.Backward in
    let swept : Swept d c.args.g.now c.rounds.round 0 c.rounds.spent c.in_ok-sweep.field-0 c.sweep.new.values c.sweep.new.spent = c.in_ok-sweep.ensures in
    let last : d.LAST_ROUND < 2 ^ 32 = search rules in
    falls d.LAST_ROUND c.rounds.round c.saturating_add-round.result (left c.rounds.spent) (left c.sweep.new.spent)
    swept.fewer (swept.falls c.if-branch.true) last c.saturating_add-round.ensures

pub returns-clause-consistent : goal.returns-clause-consistent
returns-clause-consistent g c =
    let swept = subst (λ (b : Bool). Swept g.B.Backward c.args.g.now c.rounds.round 0 c.rounds.spent b c.sweep.new.values c.sweep.new.spent) c.if-branch.false c.in_ok-sweep.ensures in
    swept_consistent g.B.Backward c.args.g.now c.points-points.ensures.kept c.rounds.round c.rounds.spent c.sweep.new.values c.sweep.new.spent swept

pub returns-clause-safe : goal.returns-clause-safe
returns-clause-safe g c =
    let graph = c.points-points.ensures.kept in
    let swept = subst (λ (b : Bool). Swept g.B.Backward c.args.g.now c.rounds.round 0 c.rounds.spent b c.sweep.new.values c.sweep.new.spent) c.if-branch.false c.in_ok-sweep.ensures in
    consistent_is_safe g.B.Backward.has c.args.g.now c.sweep.new.values graph
    (swept_consistent g.B.Backward c.args.g.now graph c.rounds.round c.rounds.spent c.sweep.new.values c.sweep.new.spent swept)

pub returns-clause-folded : goal.returns-clause-folded
returns-clause-folded g c = λ none.
    let swept = subst (λ (b : Bool). Swept g.B.Backward c.args.g.now c.rounds.round 0 c.rounds.spent b c.sweep.new.values c.sweep.new.spent) c.if-branch.false c.in_ok-sweep.ensures in
    swept_folds g.B.Backward c.args.g.now c.points-points.ensures.kept c.rounds.round c.rounds.spent c.sweep.new.values c.sweep.new.spent swept none
