use Rattle.std.proofs.Common.{◌≡◌, ◌++◌, take}
use Rattle.std.specs.List.{AllByRecursion}
use Rattle.pc_rows.specs.Evidence.{IsProof}
use Rattle.pc_lines.specs.Texts.{lines_text, numbered}
use Rattle.pc_cert.specs.CertificateTexts.{edge_lines}
use Rattle.pc_cert.proofs.showing.push_edges.Given as goal

abbrev pub invariant-edges : goal.invariant-edges
invariant-edges l = record {
  kept : AllByRecursion (AllByRecursion IsProof) (take l.e l.edges);
  text : l.text ≡ l.fn.text ++ lines_text (numbered edge_lines 0 (take l.e l.edges));
}
