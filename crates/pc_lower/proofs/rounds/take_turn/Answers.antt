use Rattle.std.proofs.Common.{◌+◌, ℕ, sym, subst}
use Rattle.std.proofs.lemmas.Result.{err_from_is_err_and}
use Rattle.std.proofs.Math.Numerals.{suc-eq-add-one}
use Rattle.pc_flow.specs.Annotation.{rows_at}
use Rattle.pc_lower.specs.Candidate.{turned_from}
use Rattle.pc_lower.specs.Fresh.{IsFresh}
use Rattle.pc_lower.proofs.Turning.{refresh_refused, turn_refused, turn_fits, turn_stands}
use Rattle.pc_lower.proofs.rounds.take_turn.Goals as goal

pub returns-in_err-refresh : goal.returns-in_err-refresh
returns-in_err-refresh c =
    let p = err_from_is_err_and c.from_residual.result c.from_residual.ensures.1 in
    rw (p.1, p.2) (refresh_refused c.args.g.now c.args.m c.args.h (c.args.h + 1) c.args.rows.now c.refresh.new.rows c.refresh.new.rows c.in_err-refresh.field-0.0 (sym (suc-eq-add-one c.args.h)) c.in_err-refresh.ensures)

pub returns-in_err-new : goal.returns-in_err-new
returns-in_err-new c =
    let p = err_from_is_err_and c.from_residual-in_err-new.result c.from_residual-in_err-new.ensures.1 in
    let mid = c.refresh.new.rows in
    let fresh = subst (λ (n : ℕ). IsFresh c.args.g.now n mid) (sym (suc-eq-add-one c.args.h)) c.in_ok-refresh.ensures.fresh in
    rw (p.1, p.2) (turn_refused c.args.g.now c.points-points.ensures.kept.leads c.args.m c.args.h c.requires.head c.args.rows.now mid c.in_ok-refresh.ensures.long c.in_ok-refresh.ensures.heads fresh
    (turned_from c.args.g.now c.args.m c.args.h (rows_at mid)) c.in_err-new.field-0.0 mid c.in_err-new.ensures)

pub returns : goal.returns
returns c =
    let mid = c.refresh.new.rows in
    let fresh = subst (λ (n : ℕ). IsFresh c.args.g.now n mid) (sym (suc-eq-add-one c.args.h)) c.in_ok-refresh.ensures.fresh in (
      turn_fits c.args.g.now c.points-points.ensures.kept.leads c.args.m c.args.h c.requires.head c.args.rows.now mid c.in_ok-refresh.ensures.long c.in_ok-refresh.ensures.heads fresh c.in_ok-new.ensures.0,
      turn_stands c.args.g.now c.points-points.ensures.kept.leads c.args.m c.args.h c.requires.head c.args.rows.now mid c.in_ok-refresh.ensures.long c.in_ok-refresh.ensures.heads fresh c.in_ok-new.new c.set.new.self
          c.end_of_loop.result c.in_ok-refresh.ensures.few c.requires.long c.requires.point c.in_ok-new.ensures.1 c.len-most.ensures.most c.set.ensures c.end_of_loop.ensures.after c.end_of_loop.ensures.within c.end_of_loop.ensures.none,
    )
