use Rattle.std.proofs.Common.{◌≡◌, ℕ, ◌+◌, ◌-◌, Bool, arith, subst}
use Rattle.pc_fixpoint.specs.Sweeps.{Swept, Stepped}
use Rattle.pc_fixpoint.proofs.Stepping.{swept_same, swept_changed}
use Rattle.pc_fixpoint.proofs.sweeping.sweep.Goals as goal

pub points-preserved-then-branch : goal.points-preserved-then-branch
points-preserved-then-branch g c =
    let d = g.B.Backward in
    let flow = c.args.g.now in
    let at = c.points in
    let p = at.p - 1 in
    let within = at.invariant.within in
    let next : at.p ≡ p + 1 = omega arith in
    let swept = subst (λ (k : ℕ). Swept d flow c.args.round k c.args.spent.now at.changed at.values at.spent) next at.invariant.swept in
    record {
      within = omega arith;
      swept = swept_changed d flow c.points-p.ensures.kept c.args.round p c.args.spent.now at.changed at.values at.spent c.step_at.new.values c.step_at.new.spent (omega arith) swept
          (subst (λ (b : Bool). Stepped d flow c.args.round at.values at.spent p b c.step_at.new.values c.step_at.new.spent) c.if-branch.true c.in_ok-step_at.ensures);
    }

pub points-preserved : goal.points-preserved
points-preserved g c =
    let d = g.B.Backward in
    let flow = c.args.g.now in
    let at = c.points in
    let p = at.p - 1 in
    let within = at.invariant.within in
    let next : at.p ≡ p + 1 = omega arith in
    let swept = subst (λ (k : ℕ). Swept d flow c.args.round k c.args.spent.now at.changed at.values at.spent) next at.invariant.swept in
    record {
      within = omega arith;
      swept = swept_same d flow c.points-p.ensures.kept c.args.round p c.args.spent.now at.changed at.values at.spent c.step_at.new.values c.step_at.new.spent (omega arith) swept
          (subst (λ (b : Bool). Stepped d flow c.args.round at.values at.spent p b c.step_at.new.values c.step_at.new.spent) c.if-branch.false c.in_ok-step_at.ensures);
    }
