use Rattle.std.proofs.Common.{◌≡◌, ◌∙◌, sym, Err}
use Rattle.std.proofs.lemmas.Result.{err_from_is_err_and}
use Rattle.pc_lines.specs.Readers.{repeated}
use Rattle.pc_cert.specs.Readers.{point_reader}
use Rattle.pc_lines.proofs.Repeats.{turn, turn_fault}
use Rattle.pc_lines.proofs.Told.{reads_on}
use Rattle.pc_cert.proofs.reading.points.Goals as goal

pub returns-in_err-point : goal.returns-in_err-point
returns-in_err-point c =
    let p = err_from_is_err_and c.from_residual.result c.from_residual.ensures.1 in
    let f = c.in_err-point.field-0.0 in
    reads_on c.from_residual.result (repeated (point_reader c.args.sizes.variables) 0 c.args.sizes.points c.args.lines.now) c.point.new.lines (point_reader c.args.sizes.variables c.points.p c.points.lines ≡ Err f) p.0 f p.1 p.2
    (λ h. sym c.points.invariant ∙ turn_fault (point_reader c.args.sizes.variables) c.args.sizes.points c.points.p c.points.points c.points.lines c.points-test.true f h) c.in_err-point.ensures

pub points-preserved : goal.points-preserved
points-preserved c =
    turn (point_reader c.args.sizes.variables) c.args.sizes.points c.points.p c.points.points c.points.lines c.points-test.true c.push.new.self c.in_ok-point.field-0 c.point.new.lines c.in_ok-point.ensures c.in_ok-push.ensures.ok
    ∙ c.points.invariant
