use Rattle.std.proofs.Common.{◌≡◌, ◌∙◌, ℕ, suc, ◌-◌, subst, arith}
use Rattle.std.proofs.lemmas.Result.{err_from_is_err_and}
use Rattle.pc_flow.specs.Annotation.{rows_at}
use Rattle.pc_lower.specs.Need.{needed_at}
use Rattle.pc_lower.proofs.Annotations.{head_told}
use Rattle.pc_lower.proofs.Completing.{Completes, completes_none, completes_head, completes_next, completes_refused}
use Rattle.pc_lower.proofs.completion.completed.Goals as goal

pub loop-p-init : goal.loop-p-init
loop-p-init c =
    completes_none c.args.g.now c.args.heads.now c.in_ok-rows.rows c.points-p.result c.points-p.ensures.value c.in_ok-rows.ensures.rows c.in_ok-rows.ensures.few

pub is_head-requires : goal.is_head-requires
is_head-requires c = let within = c.loop-p.invariant.within in omega arith

pub returns-in_err-needed-clause-need : goal.returns-in_err-needed-clause-need
returns-in_err-needed-clause-need c =
    let q = err_from_is_err_and c.from_residual-in_err-needed.result c.from_residual-in_err-needed.ensures.1 in
    let g = c.args.g.now in
    let n = c.loop-p.p - 1 in
    let within = c.loop-p.invariant.within in
    let next : c.loop-p.p ≡ suc n = omega arith in
    let so_far = subst (λ (m : ℕ). Completes g c.args.heads.now m c.loop-p.rows) next c.loop-p.invariant in
    let other = head_told g.points n c.is_head.result (omega arith) c.is_head.ensures ∙ c.if-not-is_head.true in
    rw (q.1, q.2) (completes_refused g c.args.heads.now c.loop-p.rows c.points-p.ensures.kept n so_far (needed_at g.edges (rows_at c.loop-p.rows) n) c.in_err-needed.field-0.0 other c.in_err-needed.ensures.needed)

pub set-requires : goal.set-requires
set-requires c = let long = c.loop-p.invariant.long in let within = c.loop-p.invariant.within in omega arith

pub loop-p-preserved-then-not-is_head : goal.loop-p-preserved-then-not-is_head
loop-p-preserved-then-not-is_head c =
    let g = c.args.g.now in
    let n = c.loop-p.p - 1 in
    let within = c.loop-p.invariant.within in
    let next : c.loop-p.p ≡ suc n = omega arith in
    let so_far = subst (λ (m : ℕ). Completes g c.args.heads.now m c.loop-p.rows) next c.loop-p.invariant in
    let other = head_told g.points n c.is_head.result (omega arith) c.is_head.ensures ∙ c.if-not-is_head.true in
    completes_next g c.args.heads.now c.loop-p.rows c.points-p.ensures.kept n so_far c.in_ok-needed.needed c.set.new.self other
    c.in_ok-needed.ensures.needed.0 c.in_ok-needed.ensures.needed.1 c.in_ok-needed.ensures.few c.set.ensures

pub loop-p-preserved : goal.loop-p-preserved
loop-p-preserved c =
    let g = c.args.g.now in
    let n = c.loop-p.p - 1 in
    let within = c.loop-p.invariant.within in
    let next : c.loop-p.p ≡ suc n = omega arith in
    let so_far = subst (λ (m : ℕ). Completes g c.args.heads.now m c.loop-p.rows) next c.loop-p.invariant in
    let head = head_told g.points n c.is_head.result (omega arith) c.is_head.ensures ∙ c.if-not-is_head.false in
    completes_head g c.args.heads.now c.loop-p.rows c.points-p.ensures.kept n so_far head
