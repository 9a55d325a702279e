-- How long the text of a certificate may be.
use Rattle.std.specs.Prelude.{ℕ, ◌+◌, ◌*◌, ◌≤◌, length}
use Rattle.std.specs.List.{AllByRecursion}
use Rattle.pc_rows.specs.declared.row.TheConstants.{VARIABLES}
use Rattle.pc_rows.specs.declared.rows.TheConstants.{ROWS}
use Rattle.pc_rows.specs.declared.system.TheConstants.{PREMISES}
use Rattle.pc_certificate.specs.declared.certificate.TheConstants.{POINTS}
use Rattle.pc_language.specs.declared.limits.TheConstants.{EDGES}
use Rattle.pc_certificate.specs.Certificate.{Certificate, IsShowable, IsCertificate, AreLean}
use Rattle.pc_cert.specs.CertificateTexts.{certificate_text}

-- ---- the most bytes that lines take: 41 for a numeral, of which one is the space or the line feed behind it, 3 for an index, and
-- 124 for a line that tells how many follow it

abbrev pub row_bytes : ℕ → ℕ
row_bytes variables = (variables + 1) * 41

abbrev pub proof_bytes : ℕ → ℕ
proof_bytes parts = 41 + parts * 44

abbrev pub point_bytes : ℕ → ℕ → ℕ
point_bytes variables rows = 124 + rows * row_bytes variables

abbrev pub edge_bytes : ℕ → ℕ → ℕ
edge_bytes proofs parts = 124 + proofs * proof_bytes parts

-- an alternative, where a point has so many rows and a system so many premises
abbrev pub alternative_bytes : ℕ → ℕ → ℕ → ℕ → ℕ → ℕ
alternative_bytes points edges variables rows premises = 12 + (points * point_bytes variables rows + edges * edge_bytes premises rows)

abbrev pub text_bytes : ℕ → ℕ → ℕ → ℕ → ℕ → ℕ → ℕ
text_bytes points edges variables rows premises alternatives = 256 + alternatives * alternative_bytes points edges variables rows premises

-- the text of a certificate takes no more bytes than its alternatives may
abbrev pub TextsAreShort : Type 0
TextsAreShort =
    (c : Certificate) → IsShowable c → IsCertificate c → AllByRecursion AreLean c.alternatives →
    length (certificate_text c) ≤ text_bytes POINTS EDGES VARIABLES ROWS PREMISES (length c.alternatives)
