use Rattle.std.proofs.Common.{◌≡◌, ◌++◌, ◌∷◌, [], arith, rules}
use Rattle.std.proofs.lemmas.Result.{err_from_is_err_and}
use Rattle.pc_lower.specs.Candidate.{hinted}
use Rattle.pc_lower.proofs.Hinting.{hints_next, hints_refused, hints_all}
use Rattle.pc_lower.proofs.candidates.hinted.Goals as goal

pub returns-in_err-rows : goal.returns-in_err-rows
returns-in_err-rows c =
    let q = err_from_is_err_and c.from_residual.result c.from_residual.ensures.1 in
    let g = c.args.g.now in
    rw (q.1, q.2) (hints_refused g.points c.loop-p.p c.loop-p.all c.loop-p.invariant c.in_err-rows.field-0.0 g (hinted g) (omega arith) c.in_err-rows.ensures)

pub loop-p-preserved : goal.loop-p-preserved
loop-p-preserved c =
    let pushed : c.push.new.self ≡ c.loop-p.all ++ c.in_ok-rows.rows ∷ [] = search rules in
    hints_next c.args.g.now.points c.loop-p.p c.loop-p.all c.loop-p.invariant c.in_ok-rows.rows c.push.new.self (omega arith) c.in_ok-rows.ensures pushed

pub returns : goal.returns
returns c = hints_all c.args.g.now c.loop-p.p c.loop-p.all (omega arith) c.loop-p.invariant
