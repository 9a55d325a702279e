-- Certificates read line by line.
use Rattle.std.specs.Prelude.{ℕ, zero, suc, ◌+◌, Bool, not, if◌then◌else◌, List, [], ◌∷◌, Ok, codes}
use Rattle.pc_rows.specs.declared.rows.TheConstants.{ROWS}
use Rattle.pc_rows.specs.declared.system.TheConstants.{PREMISES}
use Rattle.pc_rows.specs.Linear.{Linear}
use Rattle.pc_rows.specs.Evidence.{Proof}
use Rattle.pc_text.specs.Words.{Words}
use Rattle.pc_lines.specs.declared.sizes.Sizes.{Sizes}
use Rattle.pc_lines.specs.Kinds.{just, graph, head, sizes_of}
use Rattle.pc_lines.specs.Readers.{◌>>=◌, Reader, read_line, repeated, headed, row_reader, proof_reader}
use Rattle.pc_certificate.specs.declared.certificate.Annotated.{Annotated}
use Rattle.pc_certificate.specs.declared.certificate.TheConstants.{ALTERNATIVES}
use Rattle.pc_certificate.specs.Certificate.{Certificate}
use Rattle.pc_cert.specs.Faults.{limits, is_end, next}

-- the line is not the end
abbrev pub goes_on : Words → Bool
goes_on ws = not (is_end ws)

-- the rows of a point
abbrev pub point_reader : ℕ → ℕ → Reader (List Linear)
point_reader v p = headed (head (codes "point") p ROWS) (row_reader v)

-- the proofs of an edge
abbrev pub edge_reader : ℕ → Reader (List Proof)
edge_reader e = headed (head (codes "edge") e PREMISES) (proof_reader PREMISES)

-- what stands behind the line that begins an alternative
abbrev pub annotated_reader : Sizes → Reader Annotated
annotated_reader z s = do
  rows ← repeated (point_reader z.variables) 0 z.points s
  proofs ← repeated edge_reader 0 z.edges rows.1
  Ok (record { rows = rows.0; proofs = proofs.0 }, proofs.1)

-- whether a further alternative begins behind so many others
abbrev pub begins : ℕ → Reader Bool
begins n = read_line (next n) goes_on

-- the alternatives behind `n` others, at most `k` of them
unfoldable pub alternatives_reader : Sizes → ℕ → ℕ → Reader (List Annotated)
alternatives_reader z n zero s = do
  more ← begins n s
  Ok ([], more.1)
alternatives_reader z n (suc k) s = do
  more ← begins n s
  if more.0 then (do
    a ← annotated_reader z more.1
    others ← alternatives_reader z (n + 1) k a.1
    Ok (a.0 ∷ others.0, others.1)) else Ok ([], more.1)

-- the certificate with these sizes and alternatives
abbrev pub certificate_with : Sizes → List Annotated → Certificate
certificate_with z all = record { points = z.points; edges = z.edges; variables = z.variables; alternatives = all }

-- a certificate
abbrev pub certificate_reader : Reader Certificate
certificate_reader s = do
  version ← read_line {A = Unit {0}} (just (codes "precond 1")) (λ _. tt) s
  z ← read_line (graph limits) sizes_of version.1
  all ← alternatives_reader z.0 0 ALTERNATIVES z.1
  Ok (certificate_with z.0 all.0, all.1)
