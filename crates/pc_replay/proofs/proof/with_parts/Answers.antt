use Rattle.std.proofs.Common.{drop, ◌+◌}
use Rattle.std.proofs.lemmas.Result.{err_from_is_err_and}
use Rattle.pc_rows.proofs.Adding.{drop_got, part_fits, parts_go_on, parts_fit_on, parts_fit_back}
use Rattle.pc_flow.specs.Carry.{premises}
use Rattle.pc_replay.proofs.proof.with_parts.Goals as goal

pub returns-in_err-add : goal.returns-in_err-add
returns-in_err-add c =
    let p = err_from_is_err_and c.from_residual.result c.from_residual.ensures.1 in
    let all = premises c.args.e.now.what c.args.rows.now in
    let ps = c.args.parts.now in
    let i = c.loop-i.i in
    let at = drop_got ps i c.at-part.result c.at-part.ensures in
    rw p.1 (λ h. c.in_err-add.ensures (part_fits all (drop i ps) (drop (i + 1) ps) c.at-part.result c.premise.result.now c.loop-i.sum c.loop-i.sum at c.premise.ensures (c.loop-i.invariant.fits h)))

pub loop-i-preserved : goal.loop-i-preserved
loop-i-preserved c =
    let all = premises c.args.e.now.what c.args.rows.now in
    let ps = c.args.parts.now in
    let i = c.loop-i.i in
    let at = drop_got ps i c.at-part.result c.at-part.ensures in
    let n = c.in_ok-add.ensures in
    record {
      rest = parts_go_on all (drop i ps) (drop (i + 1) ps) c.at-part.result c.premise.result.now c.loop-i.sum c.add.new.self at c.premise.ensures _ n.1 c.loop-i.invariant.rest;
      fits = λ h. parts_fit_on all (drop i ps) (drop (i + 1) ps) c.at-part.result c.premise.result.now c.loop-i.sum c.add.new.self at c.premise.ensures n.1 (c.loop-i.invariant.fits h);
      back = λ h. c.loop-i.invariant.back (parts_fit_back all (drop i ps) (drop (i + 1) ps) c.at-part.result c.premise.result.now c.loop-i.sum c.add.new.self at c.premise.ensures n.1 n.0 h);
    }
