use Rattle.std.proofs.Common.{◌∙◌, sym}
use Rattle.pc_breach.specs.Following.{is_same}
use Rattle.pc_breach.proofs.Stepping.{any_found, any_next}
use Rattle.pc_breach.proofs.step.has.Goals as goal

pub returns-then-is_same : goal.returns-then-is_same
returns-then-is_same c =
    any_found (λ x. is_same x c.args.r.now) c.args.rows.now c.loop-i.i c.at.result.now c.at.ensures c.loop-i.invariant (sym c.is_same.ensures ∙ c.if-is_same.true)

pub loop-i-preserved : goal.loop-i-preserved
loop-i-preserved c =
    any_next (λ x. is_same x c.args.r.now) c.args.rows.now c.loop-i.i c.at.result.now c.at.ensures c.loop-i.invariant (sym c.is_same.ensures ∙ c.if-is_same.false)
