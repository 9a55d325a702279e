use Rattle.std.proofs.Common.{◌≡◌, ◌++◌, take}
use Rattle.std.specs.List.{AllByRecursion}
use Rattle.pc_rows.specs.Joins.{IsRows}
use Rattle.pc_lines.specs.Texts.{lines_text, numbered}
use Rattle.pc_cert.specs.CertificateTexts.{point_lines}
use Rattle.pc_cert.proofs.showing.push_points.Given as goal

abbrev pub invariant-points : goal.invariant-points
invariant-points l = record {
  kept : AllByRecursion IsRows (take l.p l.points);
  text : l.text ≡ l.fn.text ++ lines_text (numbered (point_lines l.variables) 0 (take l.p l.points));
}
