use Rattle.std.proofs.Common.{◌∙◌, ◌++◌, sym}
use Rattle.pc_rows.specs.Joins.{is_covered}
use Rattle.pc_lower.proofs.Lifting.{all_next, all_fails}
use Rattle.pc_lower.proofs.steady.all_covered.Goals as goal

pub returns-then-not-covered_by : goal.returns-then-not-covered_by
returns-then-not-covered_by c =
    all_fails (λ x. is_covered x (c.args.a.now ++ c.args.b.now)) c.args.rows.now c.loop-i.i c.at.result.now c.at.ensures (sym c.covered_by.ensures ∙ c.if-not-covered_by.true) c.loop-i.invariant

pub loop-i-preserved : goal.loop-i-preserved
loop-i-preserved c =
    all_next (λ x. is_covered x (c.args.a.now ++ c.args.b.now)) c.args.rows.now c.loop-i.i c.at.result.now c.at.ensures (sym c.covered_by.ensures ∙ c.if-not-covered_by.false) c.loop-i.invariant
