use Rattle.std.proofs.Common.{◌≡◌, ◌∙◌, ℕ, suc, ◌-◌, subst, arith}
use Rattle.std.proofs.lemmas.Result.{err_from_is_err_and}
use Rattle.pc_lower.proofs.Annotations.{head_told}
use Rattle.pc_lower.proofs.Rounding.{Turns, turns_start, turns_other, turns_next, turns_refused, turns_all}
use Rattle.pc_lower.proofs.rounds.round.Goals as goal

pub loop-h-init : goal.loop-h-init
loop-h-init c =
    turns_start c.args.g.now c.args.m c.points-h.ensures.kept.leads c.args.rows.now c.points-h.result c.points-high.result c.points-h.ensures.value c.points-high.ensures.value c.requires.long c.requires.few

pub take_turn-requires-clause-head : goal.take_turn-requires-clause-head
take_turn-requires-clause-head c =
    let below = c.loop-h.invariant.below in
    head_told c.args.g.now.points (c.loop-h.h - 1) c.is_head.result (omega arith) c.is_head.ensures ∙ c.if-is_head.true

pub returns-in_err-high : goal.returns-in_err-high
returns-in_err-high c =
    let q = err_from_is_err_and c.from_residual.result c.from_residual.ensures.1 in
    let n = c.loop-h.h - 1 in
    let below = c.loop-h.invariant.below in
    let head = head_told c.args.g.now.points (c.loop-h.h - 1) c.is_head.result (omega arith) c.is_head.ensures ∙ c.if-is_head.true in
    let next : c.loop-h.h ≡ suc n = omega arith in
    let so_far = subst (λ (k : ℕ). Turns c.args.g.now c.args.m c.args.rows.now k c.loop-h.high c.loop-h.rows) next c.loop-h.invariant in
    rw (q.1, q.2) (turns_refused c.args.g.now c.args.m c.args.rows.now n c.loop-h.high c.loop-h.rows so_far head c.in_err-high.field-0.0 c.take_turn.new.rows c.take_turn.new.rows c.in_err-high.ensures)

pub loop-h-preserved-then-is_head : goal.loop-h-preserved-then-is_head
loop-h-preserved-then-is_head c =
    let n = c.loop-h.h - 1 in
    let below = c.loop-h.invariant.below in
    let head = head_told c.args.g.now.points (c.loop-h.h - 1) c.is_head.result (omega arith) c.is_head.ensures ∙ c.if-is_head.true in
    let next : c.loop-h.h ≡ suc n = omega arith in
    let so_far = subst (λ (k : ℕ). Turns c.args.g.now c.args.m c.args.rows.now k c.loop-h.high c.loop-h.rows) next c.loop-h.invariant in
    turns_next c.args.g.now c.args.m c.args.rows.now n c.loop-h.high c.loop-h.rows so_far head c.in_ok-high.high c.take_turn.new.rows c.in_ok-high.ensures.0 c.in_ok-high.ensures.1

pub loop-h-preserved : goal.loop-h-preserved
loop-h-preserved c =
    let n = c.loop-h.h - 1 in
    let below = c.loop-h.invariant.below in
    let next : c.loop-h.h ≡ suc n = omega arith in
    let so_far = subst (λ (k : ℕ). Turns c.args.g.now c.args.m c.args.rows.now k c.loop-h.high c.loop-h.rows) next c.loop-h.invariant in
    let other = head_told c.args.g.now.points n c.is_head.result (omega arith) c.is_head.ensures ∙ c.if-is_head.false in
    turns_other c.args.g.now c.args.m c.args.rows.now n c.loop-h.high c.loop-h.rows so_far other

pub returns : goal.returns
returns c = turns_all c.args.g.now c.args.m c.points-h.ensures.kept.leads c.args.rows.now c.loop-h.h c.loop-h.high c.loop-h.rows (omega arith) c.loop-h.invariant
