use Rattle.std.proofs.lemmas.Result.{err_from_is_err_and}
use Rattle.pc_lower.specs.Candidate.{heads_by, candidate}
use Rattle.pc_lower.specs.Course.{heads_operations, candidate_operations}
use Rattle.pc_lower.proofs.Completing.{fits_not_refused}
use Rattle.pc_lower.proofs.Hinting.{finished, unfinished}
use Rattle.pc_lower.proofs.Over.{candidate_told}
use Rattle.pc_lower.proofs.TameTurns.{tame_candidate_fits}
use Rattle.pc_lower.proofs.candidates.candidate.Goals as goal

pub returns-in_err-heads-clause-answer : goal.returns-in_err-heads-clause-answer
returns-in_err-heads-clause-answer c =
    let q = err_from_is_err_and c.from_residual.result c.from_residual.ensures.1 in
    rw (q.1, q.2) (unfinished c.args.g.now (heads_operations c.args.g.now c.args.m) (heads_by c.args.g.now c.args.m) c.in_err-heads.field-0.0 c.in_err-heads.ensures)

pub returns-in_err-heads-clause-tame : goal.returns-in_err-heads-clause-tame
returns-in_err-heads-clause-tame c tame =
    let g = c.args.g.now in
    let m = c.args.m in
    fits_not_refused (candidate_operations g m) (candidate g m) c.from_residual.result (returns-in_err-heads-clause-answer c)
    (tame_candidate_fits g m c.points-points.ensures.kept tame)

pub returns-clause-answer : goal.returns-clause-answer
returns-clause-answer c = finished c.args.g.now (heads_operations c.args.g.now c.args.m) (heads_by c.args.g.now c.args.m) c.in_ok-heads.heads c.completed.result c.in_ok-heads.ensures c.completed.ensures.need

pub returns-clause-complete : goal.returns-clause-complete
returns-clause-complete c = candidate_told c.args.g.now c.args.m c.completed.result c.points-points.ensures.kept (returns-clause-answer c)

pub returns-clause-tame : goal.returns-clause-tame
returns-clause-tame c tame =
    let g = c.args.g.now in
    let m = c.args.m in
    fits_not_refused (candidate_operations g m) (candidate g m) c.completed.result (returns-clause-answer c) (tame_candidate_fits g m c.points-points.ensures.kept tame)
