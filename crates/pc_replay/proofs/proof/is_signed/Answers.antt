use Rattle.std.proofs.Common.{sym, ap, ◌∙◌, pos}
use Rattle.std.specs.Prelude.{int_le}
use Rattle.std.specs.List.{list_all}
use Rattle.pc_rows.specs.declared.proof.Part.{Part}
use Rattle.pc_replay.proofs.Turns.{all_fail, all_go_on, false_left}
use Rattle.pc_replay.proofs.proof.is_signed.Goals as goal

pub returns-then-not-is_at_least_zero : goal.returns-then-not-is_at_least_zero
returns-then-not-is_at_least_zero c =
    let test = λ (q : Part). int_le (pos 0) q.multiplier in
    let fails = all_fail c.parts-parts.result.now c.loop-i.i c.at.result c.at.ensures test _ (sym c.if-not-is_at_least_zero.ensures) c.loop-i.invariant in
    false_left (list_all test c.args.p.now.parts) (int_le (pos 0) c.args.p.now.goal) (ap (list_all test) (sym c.parts-parts.ensures) ∙ fails)

pub loop-i-preserved : goal.loop-i-preserved
loop-i-preserved c =
    all_go_on c.parts-parts.result.now c.loop-i.i c.at.result c.at.ensures (λ (q : Part). int_le (pos 0) q.multiplier) _ (sym c.if-not-is_at_least_zero.ensures) c.loop-i.invariant
