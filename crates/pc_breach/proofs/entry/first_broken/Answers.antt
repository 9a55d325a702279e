use Rattle.std.proofs.Common.{◌∙◌, pos, ℤ, ap, sym, Some}
use Rattle.std.specs.Prelude.{int_le}
use Rattle.std.proofs.lemmas.Result.{err_from_is_err_and}
use Rattle.pc_rows.specs.Linear.{Linear}
use Rattle.pc_breach.proofs.Evaluating.{met_next, met_refused, met_broken}
use Rattle.pc_breach.proofs.entry.first_broken.Goals as goal

pub returns-in_err-value : goal.returns-in_err-value
returns-in_err-value c =
    let p = err_from_is_err_and c.from_residual.result c.from_residual.ensures.1 in
    rw p.1 (met_refused c.args.entry.now c.args.rows.now c.loop-i.i c.at-r.result.now c.at-r.ensures c.loop-i.invariant c.in_err-value.ensures)

pub returns-then-not-is_at_least_zero : goal.returns-then-not-is_at_least_zero
returns-then-not-is_at_least_zero c =
    let t = ap (λ (z : ℤ). int_le (pos 0) z) (sym c.in_ok-value.ensures.1) ∙ sym c.is_at_least_zero.ensures ∙ c.if-not-is_at_least_zero.true in
    let h = met_broken c.args.entry.now c.args.rows.now c.loop-i.i c.at-r.result.now c.at-r.ensures c.loop-i.invariant c.in_ok-value.ensures.0 t in
    (h.0, ap (λ (z : Linear). Some z) c.copy.ensures.value ∙ h.1)

pub loop-i-preserved : goal.loop-i-preserved
loop-i-preserved c =
    let t = ap (λ (z : ℤ). int_le (pos 0) z) (sym c.in_ok-value.ensures.1) ∙ sym c.is_at_least_zero.ensures ∙ c.if-not-is_at_least_zero.false in
    met_next c.args.entry.now c.args.rows.now c.loop-i.i c.at-r.result.now c.at-r.ensures c.loop-i.invariant c.in_ok-value.ensures.0 t
