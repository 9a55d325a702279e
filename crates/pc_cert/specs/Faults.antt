-- The fault of a text that is no certificate: which lines are wanted.
use Rattle.std.specs.Prelude.{ℕ, ◌+◌, nat_lt, Bool, ◌||◌, if◌then◌else◌, List, [], ◌∷◌, ◌++◌, replicate, Option, codes}
use Rattle.pc_rows.specs.declared.row.TheConstants.{VARIABLES}
use Rattle.pc_rows.specs.declared.rows.TheConstants.{ROWS}
use Rattle.pc_rows.specs.declared.system.TheConstants.{PREMISES}
use Rattle.pc_text.specs.Bytes.{Bytes}
use Rattle.pc_text.specs.Words.{Words, words}
use Rattle.pc_certificate.specs.declared.certificate.TheConstants.{POINTS, ALTERNATIVES}
use Rattle.pc_language.specs.declared.limits.TheConstants.{EDGES}
use Rattle.pc_lines.specs.declared.fault.CertFault.{CertFault}
use Rattle.pc_lines.specs.declared.sizes.Sizes.{Sizes}
use Rattle.pc_lines.specs.Forms.{is_just, number_at}
use Rattle.pc_lines.specs.Kinds.{Kind, just, graph, head, row, proof, sizes_of}
use Rattle.pc_lines.specs.Faults.{Format, in_order, fault_in_text}

-- what a line is to be
pub data Wanted : Type 0 where
  Version : Wanted
  Graph : Wanted
  Next : Sizes → ℕ → Wanted  -- the line that begins an alternative behind so many others, or the end
  Point : ℕ → ℕ → Wanted  -- the head of the rows, over so many variables, of the point of this number
  Row : ℕ → Wanted
  Edge : ℕ → Wanted  -- the head of the proofs of the edge of this number
  Proof : Wanted

-- the greatest sizes of a certificate
abbrev pub limits : Sizes
limits = record { points = POINTS; edges = EDGES; variables = VARIABLES }

-- the end
abbrev pub is_end : Words → Bool
is_end = is_just (words (codes "end"))

-- the line that begins an alternative behind so many others, if there is room, or the end
abbrev pub next : ℕ → Kind
next n = record {
  has_form = λ ws. is_just (words (codes "alternative")) ws || is_end ws;
  keeps_rules = λ ws. is_end ws || nat_lt n ALTERNATIVES;
}

abbrev pub kind_of : Wanted → Kind
kind_of Version = just (codes "precond 1")
kind_of Graph = graph limits
kind_of (Next z n) = next n
kind_of (Point v p) = head (codes "point") p ROWS
kind_of (Row v) = row v
kind_of (Edge e) = head (codes "edge") e PREMISES
kind_of Proof = proof PREMISES

-- the lines of an alternative behind so many others, and what is wanted behind them
abbrev pub alternative : Sizes → ℕ → List Wanted
alternative z n = in_order (Point z.variables) 0 z.points ++ in_order Edge 0 z.edges ++ Next z (n + 1) ∷ []

-- the lines that are wanted behind this one, before those that were wanted behind it already
abbrev pub brings : Wanted → Words → List Wanted
brings Version ws = []
brings Graph ws = Next (sizes_of ws) 0 ∷ []
brings (Next z n) ws = if is_end ws then [] else alternative z n
brings (Point v p) ws = replicate (number_at 2 ws) (Row v)
brings (Row v) ws = []
brings (Edge e) ws = replicate (number_at 2 ws) Proof
brings Proof ws = []

-- the first format of certificates
abbrev pub format : Format Wanted
format = record { kind = kind_of; brings = brings }

-- the fault of the first line at fault of a text, and nothing where it is the text of a certificate
unfoldable pub fault_of : Bytes → Option CertFault
fault_of b = fault_in_text format (Version ∷ Graph ∷ []) b
