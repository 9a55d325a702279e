use Rattle.std.proofs.Common.{refl, sym, true≢false}
use Rattle.std.proofs.lemmas.Result.{err_from_is_err_and}
use Rattle.pc_rows.proofs.Merging.{has_room, is_in_range, is_sum, starts, turn, turn_past}
use Rattle.pc_rows.proofs.terms.plus_multiple.Goals as goal

pub loop-left-init : goal.loop-left-init
loop-left-init c = (0, starts c.args.a.now c.args.k c.args.b.now c.new-sum.result c.requires.left c.requires.right c.new-sum.ensures.items c.new-sum.ensures.capacity)

pub returns-in_err-c : goal.returns-in_err-c
returns-in_err-c c =
    let p = err_from_is_err_and c.from_residual.result c.from_residual.ensures.1 in
    let m = c.loop-left.invariant.1 in
    rw (p.1) (turn_past _ _ _ _ _ _ _ m (λ l r. true≢false (sym (c.loop-left-test.ensures.1 (l, r)))) _ _ _ c.least-v.ensures c.front.ensures c.front-in-loop-left.ensures c.in_err-c.ensures)

pub push_term-requires : goal.push_term-requires
push_term-requires c =
    has_room _ _ _ _ _ _ _ c.loop-left.invariant.1 (λ l r. true≢false (sym (c.loop-left-test.ensures.1 (l, r))))

pub loop-left-preserved : goal.loop-left-preserved
loop-left-preserved c =
    turn _ _ _ _ _ _ _ c.loop-left.invariant.1 (λ l r. true≢false (sym (c.loop-left-test.ensures.1 (l, r)))) _ _ _ c.least-v.ensures c.front.ensures c.front-in-loop-left.ensures
    _ _ _ _ c.in_ok-c.ensures.0 c.in_ok-c.ensures.1 c.push_term.ensures.items c.push_term.ensures.capacity c.past-left.ensures c.past-right.ensures

pub returns : goal.returns
returns c =
    let m = c.loop-left.invariant.1 in
    let e = c.loop-left-test.ensures.0 refl in
    (m.terms, is_sum _ _ _ _ _ _ _ m e.0 e.1, is_in_range _ _ _ _ _ _ _ m e.0 e.1)
