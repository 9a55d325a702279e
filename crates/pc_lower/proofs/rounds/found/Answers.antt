use Rattle.std.proofs.Common.{◌≡◌, ℕ, suc, ◌-◌, subst, arith}
use Rattle.std.proofs.lemmas.Result.{err_from_is_err_and}
use Rattle.pc_lower.specs.declared.rounds.TheConstants.{ROUNDS}
use Rattle.pc_lower.specs.Annotation.{no_rows}
use Rattle.pc_lower.proofs.Annotations.{none_long}
use Rattle.pc_lower.proofs.Steadiness.{none_few}
use Rattle.pc_lower.proofs.Rounding.{Rounds, rounds_start, rounds_next, rounds_refused, rounds_all}
use Rattle.pc_lower.proofs.rounds.found.Goals as goal

pub loop-left-init : goal.loop-left-init
loop-left-init c =
    let points = c.args.g.now.points in
    rounds_start c.args.g.now c.args.m ROUNDS (no_rows points) c.in_ok-rows.rows c.in_ok-rows.ensures (none_long points) (none_few points)

pub loop-left-preserved : goal.loop-left-preserved
loop-left-preserved c =
    let n = c.loop-left.left - 1 in
    let next : c.loop-left.left ≡ suc n = omega arith in
    let start = no_rows c.args.g.now.points in
    let so_far = subst (λ (k : ℕ). Rounds c.args.g.now c.args.m ROUNDS start k c.loop-left.rows) next c.loop-left.invariant in
    rounds_next c.args.g.now c.args.m ROUNDS start n c.loop-left.rows so_far c.round.new.rows c.in_ok-round.ensures.0 c.in_ok-round.ensures.1

pub returns-in_err-round : goal.returns-in_err-round
returns-in_err-round c =
    let q = err_from_is_err_and c.from_residual-in_err-round.result c.from_residual-in_err-round.ensures.1 in
    let n = c.loop-left.left - 1 in
    let next : c.loop-left.left ≡ suc n = omega arith in
    let start = no_rows c.args.g.now.points in
    let so_far = subst (λ (k : ℕ). Rounds c.args.g.now c.args.m ROUNDS start k c.loop-left.rows) next c.loop-left.invariant in
    rw (q.1, q.2) (rounds_refused c.args.g.now c.args.m ROUNDS start n c.loop-left.rows so_far c.in_err-round.field-0.0 c.round.new.rows c.in_err-round.ensures)

pub returns : goal.returns
returns c = rounds_all c.args.g.now c.args.m ROUNDS (no_rows c.args.g.now.points) c.loop-left.left c.loop-left.rows (omega arith) c.loop-left.invariant
