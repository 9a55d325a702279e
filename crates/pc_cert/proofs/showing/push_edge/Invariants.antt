use Rattle.std.proofs.Common.{◌≡◌, ◌++◌, ◌∷◌, [], take, map, length}
use Rattle.std.specs.Prelude.{codes}
use Rattle.std.specs.List.{AllByRecursion}
use Rattle.pc_rows.specs.Evidence.{IsProof}
use Rattle.pc_lines.specs.Texts.{counts, line_text, lines_text, proof_line}
use Rattle.pc_cert.proofs.showing.push_edge.Given as goal

abbrev pub invariant-proofs : goal.invariant-proofs
invariant-proofs l = record {
  kept : AllByRecursion IsProof (take l.p-index l.proofs);
  text : l.text ≡ l.fn.text ++ (line_text (counts (codes "edge") (l.e ∷ length l.proofs ∷ [])) ++ lines_text (map proof_line (take l.p-index l.proofs)));
}
