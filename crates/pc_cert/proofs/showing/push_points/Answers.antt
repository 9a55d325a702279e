use Rattle.std.proofs.Common.{sym}
use Rattle.pc_rows.specs.Joins.{IsRows}
use Rattle.pc_cert.specs.CertificateTexts.{point_lines}
use Rattle.pc_lines.proofs.Shown.{numbered_step, all_more}
use Rattle.pc_cert.proofs.showing.push_points.Goals as goal

pub points-preserved : goal.points-preserved
points-preserved c =
    let points = c.args.points.now in
    let rows = c.index-points-p.result in
    record {
      kept = all_more IsRows points c.points.p rows c.points-test.true (sym c.index-points-p.is) c.points.invariant.kept c.in_ok-push_point.ensures.rows;
      text = numbered_step (point_lines c.args.variables) points c.points.p rows c.args.text.now c.points.text c.push_point.new.text c.points-test.true (sym c.index-points-p.is) c.points.invariant.text c.in_ok-push_point.ensures.added;
    }
