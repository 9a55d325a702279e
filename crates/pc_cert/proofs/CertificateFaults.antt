-- The reader of certificates finds the fault of a text that is none.
use Rattle.std.proofs.Common.{◌≡◌, refl, ℕ, zero, suc, ◌+◌, ◌<◌, Bool, true, false, cond, not, List, [], ◌∷◌, ◌++◌, Ok, arith}
use Rattle.std.specs.Prelude.{codes}
use Rattle.pc_rows.specs.Linear.{Linear}
use Rattle.pc_rows.specs.Evidence.{Proof}
use Rattle.pc_lines.specs.declared.sizes.Sizes.{Sizes}
use Rattle.pc_lines.specs.Kinds.{just, graph, sizes_of}
use Rattle.pc_lines.specs.Faults.{in_order}
use Rattle.pc_lines.specs.Readers.{◌>>=◌, Unread, read_line, repeated, row_value, proof_value, row_reader, proof_reader}
use Rattle.pc_lines.proofs.LineReading.{give}
use Rattle.pc_lines.proofs.FaultReading.{Brings, FindsFault, line_brings, first_finds, bound_finds, followed_finds, repeated_finds, headed_finds}
use Rattle.pc_certificate.specs.declared.certificate.Annotated.{Annotated}
use Rattle.pc_certificate.specs.declared.certificate.TheConstants.{ALTERNATIVES}
use Rattle.pc_certificate.specs.Certificate.{Certificate}
use Rattle.pc_rows.specs.declared.system.TheConstants.{PREMISES}
use Rattle.pc_cert.specs.Faults.{Wanted, Version, Graph, Next, Point, Row, Edge, Proof as ProofLine, limits, is_end, alternative, format}
use Rattle.pc_cert.specs.Readers.{point_reader, edge_reader, annotated_reader, goes_on, begins, alternatives_reader, certificate_with, certificate_reader}
use Rattle.pc_cert.proofs.AlternativeReading.{HasRoom, begins_reads, annotated_with}
use Rattle.pc_cert.proofs.CertificateReading.{read_one}

point_finds : (v p : ℕ) → FindsFault format (point_reader v p) (Point v p ∷ [])
point_finds v p = headed_finds format Linear (Point v p) (Row v) (row_reader v) (λ ws. refl) (line_brings format Linear (Row v) (row_value v) (λ r. []) (λ ws. refl))

edge_finds : (e : ℕ) → FindsFault format (edge_reader e) (Edge e ∷ [])
edge_finds e = headed_finds format Proof (Edge e) ProofLine (proof_reader PREMISES) (λ ws. refl) (line_brings format Proof ProofLine proof_value (λ p. []) (λ ws. refl))

abbrev inside : Sizes → List Wanted
inside z = in_order (Point z.variables) 0 z.points ++ in_order Edge 0 z.edges

annotated_finds : (z : Sizes) → FindsFault format (annotated_reader z) (inside z)
annotated_finds z =
    followed_finds format (List (List Linear)) (List (List Proof)) (repeated (point_reader z.variables) 0 z.points) (λ rows. Unit {0}) (λ s left rows e. tt) (λ rows. repeated edge_reader 0 z.edges) (inside z)
    (λ rows. in_order Edge 0 z.edges)
    (first_finds format (List (List Linear)) (repeated (point_reader z.variables) 0 z.points) (in_order (Point z.variables) 0 z.points) (in_order Edge 0 z.edges)
    (repeated_finds format (List Linear) (point_reader z.variables) (Point z.variables) (point_finds z.variables) 0 z.points))
    (λ rows h. repeated_finds format (List Proof) edge_reader Edge edge_finds 0 z.edges) Annotated annotated_with

-- ---- alternatives

wants_of : Sizes → ℕ → Bool → List Wanted
wants_of z n more = cond more (alternative z n) []

brought : (t : Bool) (xs : List Wanted) → cond t [] xs ≡ cond (not t) xs []
brought true xs = refl
brought false xs = refl

begins_brings : (z : Sizes) (n : ℕ) → Brings format (begins n) (Next z n ∷ []) (wants_of z n)
unfolding wants_of
begins_brings z n = line_brings format Bool (Next z n) goes_on (wants_of z n) (λ ws. brought (is_end ws) (alternative z n))

last_finds : (z : Sizes) (n : ℕ) → n + 0 ≡ ALTERNATIVES → (more : Bool) → HasRoom n more → FindsFault {A = List Annotated} format (λ s. give s []) (wants_of z n more)
unfolding wants_of
last_finds z n room true h = let less : n < ALTERNATIVES = h refl in absurd (omega arith)
last_finds z n room false h = λ more s. refl

one_finds : (z : Sizes) (n k : ℕ) → FindsFault format (alternatives_reader z (n + 1) k) (Next z (n + 1) ∷ []) → (more : Bool) → FindsFault format (read_one z n k more) (wants_of z n more)
unfolding wants_of
one_finds z n k again true =
    followed_finds format Annotated (List Annotated) (annotated_reader z) (λ a. Unit {0}) (λ s left a e. tt) (λ a. alternatives_reader z (n + 1) k) (alternative z n) (λ a. Next z (n + 1) ∷ [])
    (first_finds format Annotated (annotated_reader z) (inside z) (Next z (n + 1) ∷ []) (annotated_finds z)) (λ a h. again) (List Annotated) (λ a others. a ∷ others)
one_finds z n k again false = λ more s. refl

begun : (n : ℕ) (s left : Unread) (more : Bool) → begins n s ≡ Ok (more, left) → HasRoom n more
begun n s left more e = ((begins_reads n).sound s left more e).0

alternatives_find : (z : Sizes) (k n : ℕ) → n + k ≡ ALTERNATIVES → FindsFault format (alternatives_reader z n k) (Next z n ∷ [])
unfolding alternatives_reader
alternatives_find z zero n room = bound_finds format Bool (List Annotated) (begins n) (HasRoom n) (begun n) (λ more s. give s []) (Next z n ∷ []) (wants_of z n) (begins_brings z n) (last_finds z n room)
alternatives_find z (suc k) n room =
    bound_finds format Bool (List Annotated) (begins n) (HasRoom n) (begun n) (read_one z n k) (Next z n ∷ []) (wants_of z n) (begins_brings z n)
    (λ more h. one_finds z n k (alternatives_find z k (n + 1) (omega arith)) more)

-- ---- certificates

sized_finds : FindsFault format (λ s. read_line (graph limits) sizes_of s >>= (λ z. alternatives_reader z.0 0 ALTERNATIVES z.1 >>= (λ all. give all.1 (certificate_with z.0 all.0)))) (Graph ∷ [])
sized_finds =
    followed_finds format Sizes (List Annotated) (read_line (graph limits) sizes_of) (λ z. Unit {0}) (λ s left z e. tt) (λ z. alternatives_reader z 0 ALTERNATIVES) (Graph ∷ []) (λ z. Next z 0 ∷ [])
    (line_brings format Sizes Graph sizes_of (λ z. Next z 0 ∷ []) (λ ws. refl)) (λ z h. alternatives_find z ALTERNATIVES 0 refl) Certificate certificate_with

-- the reader of certificates reads what is wanted, or finds its fault
pub certificate_finds : FindsFault format certificate_reader (Version ∷ Graph ∷ [])
certificate_finds =
    bound_finds format (Unit {0}) Certificate (read_line {A = Unit {0}} (just (codes "precond 1")) (λ _. tt)) (λ _. Unit {0}) (λ s left v e. tt)
    (λ _ s. read_line (graph limits) sizes_of s >>= (λ z. alternatives_reader z.0 0 ALTERNATIVES z.1 >>= (λ all. give all.1 (certificate_with z.0 all.0)))) (Version ∷ Graph ∷ []) (λ _. Graph ∷ [])
    (first_finds format (Unit {0}) (read_line {A = Unit {0}} (just (codes "precond 1")) (λ _. tt)) (Version ∷ []) (Graph ∷ []) (line_brings format (Unit {0}) Version (λ _. tt) (λ _. []) (λ ws. refl))) (λ _ _. sized_finds)
