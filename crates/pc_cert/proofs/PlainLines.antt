-- The words of a certificate's lines are plain.
use Rattle.std.proofs.Common.{ℕ, List, [], ◌∷◌, take}
use Rattle.std.specs.Prelude.{codes}
use Rattle.std.specs.List.{flat_map}
use Rattle.pc_rows.specs.Linear.{Linear}
use Rattle.pc_rows.specs.Evidence.{Proof}
use Rattle.pc_certificate.specs.declared.certificate.Annotated.{Annotated}
use Rattle.pc_certificate.specs.Certificate.{Certificate}
use Rattle.pc_lines.specs.Texts.{row_line, proof_line, numbered}
use Rattle.pc_cert.specs.CertificateTexts.{point_lines, edge_lines, alternative_lines, certificate_lines}
use Rattle.pc_text.proofs.PlainWords.{numerals_plain}
use Rattle.pc_lines.proofs.ProofSpelling.{proof_plain}
use Rattle.pc_lines.proofs.HeadSpelling.{counts_plain, graph_plain}
use Rattle.pc_lines.proofs.PlainTexts.{ArePlainLines, both_plain, map_plain, numbered_plain, flat_plain}
use Rattle.pc_cert.proofs.AlternativeReading.{point_plain, edge_plain, alternative_plain, end_plain}
use Rattle.pc_cert.proofs.WholeReading.{precond_plain, one_plain}

point_lines_plain : (v p : ℕ) (rows : List Linear) → ArePlainLines (point_lines v p rows)
point_lines_plain v p rows = ((point_plain, counts_plain (p ∷ _ ∷ [])), map_plain (row_line v) (λ r. numerals_plain (r.constant ∷ take v r.coefficients)) rows)

edge_lines_plain : (e : ℕ) (proofs : List Proof) → ArePlainLines (edge_lines e proofs)
edge_lines_plain e proofs = ((edge_plain, counts_plain (e ∷ _ ∷ [])), map_plain proof_line proof_plain proofs)

alternative_lines_plain : (v : ℕ) (a : Annotated) → ArePlainLines (alternative_lines v a)
alternative_lines_plain v a =
    ((alternative_plain, tt), both_plain (numbered (point_lines v) 0 a.rows) (numbered edge_lines 0 a.proofs) (numbered_plain (point_lines v) (point_lines_plain v) 0 a.rows) (numbered_plain edge_lines edge_lines_plain 0 a.proofs))

pub certificate_plain : (c : Certificate) → ArePlainLines (certificate_lines c)
certificate_plain c = (
  (precond_plain, (one_plain, tt)),
  (
    (graph_plain, counts_plain (c.points ∷ c.edges ∷ c.variables ∷ [])),
    both_plain (flat_map (alternative_lines c.variables) c.alternatives) ((codes "end" ∷ []) ∷ []) (flat_plain (alternative_lines c.variables) (alternative_lines_plain c.variables) c.alternatives) ((end_plain, tt), tt),
  ),
)
