use Rattle.std.proofs.Common.{◌≡◌, ◌++◌, take}
use Rattle.std.specs.List.{AllByRecursion, flat_map}
use Rattle.pc_certificate.specs.Certificate.{IsAnnotated}
use Rattle.pc_lines.specs.Texts.{lines_text}
use Rattle.pc_cert.specs.CertificateTexts.{alternative_lines}
use Rattle.pc_cert.proofs.showing.push_alternatives.Given as goal

abbrev pub invariant-alternatives : goal.invariant-alternatives
invariant-alternatives l = record {
  kept : AllByRecursion IsAnnotated (take l.i l.alternatives);
  text : l.text ≡ l.fn.text ++ lines_text (flat_map (alternative_lines l.variables) (take l.i l.alternatives));
}
