-- The text of a certificate: its lines, each a list of words.
use Rattle.std.specs.Prelude.{◌≡◌, ℕ, List, [], ◌∷◌, ◌++◌, length, map, codes}
use Rattle.std.specs.List.{flat_map}
use Rattle.pc_rows.specs.Linear.{Linear}
use Rattle.pc_rows.specs.Evidence.{Proof}
use Rattle.pc_text.specs.Bytes.{Bytes}
use Rattle.pc_text.specs.Words.{Words}
use Rattle.pc_lines.specs.declared.sizes.Sizes.{Sizes}
use Rattle.pc_lines.specs.Texts.{counts, sizes_line, row_line, proof_line, numbered, lines_text}
use Rattle.pc_certificate.specs.declared.certificate.Annotated.{Annotated}
use Rattle.pc_certificate.specs.Certificate.{Certificate, IsShowable, IsCertificate}

abbrev pub point_lines : ℕ → ℕ → List Linear → List Words
point_lines variables p rows = counts (codes "point") (p ∷ length rows ∷ []) ∷ map (row_line variables) rows

abbrev pub edge_lines : ℕ → List Proof → List Words
edge_lines e proofs = counts (codes "edge") (e ∷ length proofs ∷ []) ∷ map proof_line proofs

abbrev pub alternative_lines : ℕ → Annotated → List Words
alternative_lines variables a =
    (codes "alternative" ∷ []) ∷ (numbered (point_lines variables) 0 a.rows ++ numbered edge_lines 0 a.proofs)

abbrev pub version_line : Words
version_line = codes "precond" ∷ codes "1" ∷ []

abbrev pub sizes_in : Certificate → Sizes
sizes_in c = record { points = c.points; edges = c.edges; variables = c.variables }

abbrev pub certificate_lines : Certificate → List Words
certificate_lines c =
    version_line ∷ sizes_line (sizes_in c) ∷ (flat_map (alternative_lines c.variables) c.alternatives ++ (codes "end" ∷ []) ∷ [])

-- the text of a certificate
abbrev pub certificate_text : Certificate → Bytes
certificate_text c = lines_text (certificate_lines c)

-- the bytes are the text of this certificate, which is one that the code may hold
pub record IsTextOf (b : Bytes) (c : Certificate) : Type 0 where
  pub kept : IsCertificate c
  pub showable : IsShowable c
  pub text : b ≡ certificate_text c
