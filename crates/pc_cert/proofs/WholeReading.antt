-- A certificate that is read is the one whose lines the text has.
use Rattle.std.proofs.Common.{refl, ℕ, ◌<◌, ◌≤◌, List, [], ◌∷◌, length, arith}
use Rattle.std.specs.Prelude.{codes}
use Rattle.std.specs.List.{AllByRecursion}
use Rattle.pc_rows.specs.declared.proof.Part.{Part}
use Rattle.pc_rows.specs.declared.system.TheConstants.{PREMISES}
use Rattle.pc_rows.specs.Linear.{Linear, IsRow, IsOver}
use Rattle.pc_rows.specs.Joins.{IsRows}
use Rattle.pc_rows.specs.Evidence.{Proof, IsPart, IsProof}
use Rattle.pc_text.proofs.PlainWords.{IsPlain}
use Rattle.pc_lines.specs.declared.sizes.Sizes.{Sizes}
use Rattle.pc_lines.specs.Kinds.{just, graph, sizes_of}
use Rattle.pc_lines.specs.Readers.{◌>>=◌, read_line}
use Rattle.pc_lines.specs.Texts.{sizes_line}
use Rattle.pc_lines.proofs.NamedLines.{just_spelled}
use Rattle.pc_lines.proofs.RowSpelling.{IsRowOver}
use Rattle.pc_lines.proofs.ProofSpelling.{IsProofOf}
use Rattle.pc_lines.proofs.HeadSpelling.{AreWithin, sizes_spelled}
use Rattle.pc_lines.proofs.LineReading.{ReadsLines, give, line_reads}
use Rattle.pc_lines.proofs.ListReading.{AreFew}
use Rattle.pc_lines.proofs.Following.{bound_reads, followed_reads}
use Rattle.pc_certificate.specs.declared.certificate.Annotated.{Annotated}
use Rattle.pc_certificate.specs.declared.certificate.TheConstants.{ALTERNATIVES}
use Rattle.pc_certificate.specs.Certificate.{Certificate, IsAnnotation, IsShowable, IsAnnotated, IsCertificate}
use Rattle.pc_cert.specs.CertificateTexts.{version_line, sizes_in, certificate_lines}
use Rattle.pc_cert.specs.Faults.{limits}
use Rattle.pc_cert.specs.Readers.{alternatives_reader, certificate_with, certificate_reader}
use Rattle.pc_cert.proofs.AlternativeReading.{IsPoint, IsEdge, IsWhole}
use Rattle.pc_cert.proofs.CertificateReading.{alternatives_lines, alternatives_read}

-- ---- what is read is within the limits

each_both : {A : Type 0} (P Q R : A → Type 0) → ((x : A) → P x → Q x × R x) → (xs : List A) → AllByRecursion P xs → AllByRecursion Q xs × AllByRecursion R xs
each_both P Q R f [] h = (tt, tt)
each_both P Q R f (x ∷ xs) h = let first = f x h.0 in let more = each_both P Q R f xs h.1 in ((first.0, more.0), (first.1, more.1))

pub each_of : {A : Type 0} (P Q R : A → Type 0) → ((x : A) → P x → Q x → R x) → (xs : List A) → AllByRecursion P xs → AllByRecursion Q xs → AllByRecursion R xs
each_of P Q R f [] h g = tt
each_of P Q R f (x ∷ xs) h g = (f x h.0 g.0, each_of P Q R f xs h.1 g.1)

point_is : (v : ℕ) (rows : List Linear) → IsPoint v rows → IsRows rows × AllByRecursion (IsOver v) rows
point_is v rows h = let both = each_both (IsRowOver v) IsRow (IsOver v) (λ r g. g) rows h.each in (record { most = h.few; each = both.0 }, both.1)

point_of : (v : ℕ) (rows : List Linear) → IsRows rows → AllByRecursion (IsOver v) rows → IsPoint v rows
point_of v rows h g = record { few = h.most; each = each_of IsRow (IsOver v) (IsRowOver v) (λ r a b. (a, b)) rows h.each g }

-- the parts of a proof name premises that a system may have
pub part_indices : (ps : List Part) → AllByRecursion IsPart ps → AllByRecursion (λ q. q.index < PREMISES) ps
part_indices [] h = tt
part_indices (p ∷ ps) h = (h.0.index, part_indices ps h.1)

edge_is : (ps : List Proof) → IsEdge ps → AllByRecursion IsProof ps × (length ps ≤ PREMISES)
edge_is ps h = ((each_both (IsProofOf PREMISES) IsProof IsProof (λ p g. (g.proof, g.proof)) ps h.each).0, h.few)

edge_of : (ps : List Proof) → AllByRecursion IsProof ps → length ps ≤ PREMISES → IsEdge ps
edge_of ps h l = record {
  few = l;
  each = each_of IsProof IsProof (IsProofOf PREMISES) (λ p g k. record { proof = g; few = part_indices p.parts g.parts.each }) ps h h;
}

annotated_is : (z : Sizes) (a : Annotated) → IsWhole z a → IsAnnotated a × IsAnnotation z.points z.edges z.variables a
annotated_is z a h =
    let rows = each_both (IsPoint z.variables) IsRows (AllByRecursion (IsOver z.variables)) (point_is z.variables) a.rows h.rows.each in
    let proofs = each_both IsEdge (AllByRecursion IsProof) (λ ps. length ps ≤ PREMISES) edge_is a.proofs h.proofs.each in
    (record { rows = rows.0; proofs = proofs.0 }, record { rows = h.rows.count; proofs = h.proofs.count; over = rows.1; few = proofs.1 })

annotated_of : (z : Sizes) (a : Annotated) → IsAnnotated a → IsAnnotation z.points z.edges z.variables a → IsWhole z a
annotated_of z a h g = record {
  rows = record { count = g.rows; each = each_of IsRows (AllByRecursion (IsOver z.variables)) (IsPoint z.variables) (point_of z.variables) a.rows h.rows g.over };
  proofs = record { count = g.proofs; each = each_of (AllByRecursion IsProof) (λ ps. length ps ≤ PREMISES) IsEdge edge_of a.proofs h.proofs g.few };
}

-- ---- certificates

certificate_is : (z : Sizes) (all : List Annotated) → AreWithin limits z → AreFew (IsWhole z) ALTERNATIVES all → IsCertificate (certificate_with z all) × IsShowable (certificate_with z all)
certificate_is z all h g =
    let both = each_both (IsWhole z) IsAnnotated (IsAnnotation z.points z.edges z.variables) (annotated_is z) all g.each in
    let few = g.few in
    (record { few = omega arith; each = both.0 }, record { points = h.points; edges = h.edges; variables = h.variables; few = few; each = both.1 })

within_of : (c : Certificate) → IsShowable c → AreWithin limits (sizes_in c)
within_of c h = record { points = h.points; edges = h.edges; variables = h.variables }

alternatives_of : (c : Certificate) → IsCertificate c → IsShowable c → AreFew (IsWhole (sizes_in c)) ALTERNATIVES c.alternatives
alternatives_of c h g = record {
  few = g.few;
  each = each_of IsAnnotated (IsAnnotation c.points c.edges c.variables) (IsWhole (sizes_in c)) (annotated_of (sizes_in c)) c.alternatives h.each g.each;
}

-- a certificate that the code may hold and that has a text
abbrev pub IsGood : Certificate → Type 0
IsGood c = IsCertificate c × IsShowable c

pub precond_plain : IsPlain (codes "precond")
precond_plain = (omega arith, (omega arith, (omega arith, (omega arith, (omega arith, (omega arith, (omega arith, tt)))))))

pub one_plain : IsPlain (codes "1")
one_plain = (omega arith, tt)

version_reads : ReadsLines (read_line {A = Unit {0}} (just (codes "precond 1")) (λ _. tt)) (λ _. version_line ∷ []) (λ _. Unit {0})
version_reads = line_reads {A = Unit {0}} (just (codes "precond 1")) (λ _. tt) (λ _. version_line) (λ _. Unit {0}) (just_spelled (codes "precond 1") ((precond_plain, (one_plain, tt)), refl))

sizes_read : ReadsLines (read_line (graph limits) sizes_of) (λ z. sizes_line z ∷ []) (AreWithin limits)
sizes_read = line_reads (graph limits) sizes_of sizes_line (AreWithin limits) (sizes_spelled limits)

-- behind the version stand the sizes, and behind these the alternatives
sized_reads : ReadsLines (λ s. read_line (graph limits) sizes_of s >>= (λ z. alternatives_reader z.0 0 ALTERNATIVES z.1 >>= (λ all. give all.1 (certificate_with z.0 all.0))))
    (λ c. sizes_line (sizes_in c) ∷ alternatives_lines c.variables c.alternatives) IsGood
sized_reads =
    followed_reads (read_line (graph limits) sizes_of) (λ z. sizes_line z ∷ []) (AreWithin limits) sizes_read
    (λ z. alternatives_reader z 0 ALTERNATIVES) (λ z. alternatives_lines z.variables) (λ z. AreFew (IsWhole z) ALTERNATIVES) (λ z h. alternatives_read z h.variables ALTERNATIVES 0 refl) certificate_with
    (λ c. sizes_line (sizes_in c) ∷ alternatives_lines c.variables c.alternatives) IsGood (λ z all h g. (certificate_is z all h g, refl))
    (λ c h. (sizes_in c, c.alternatives, within_of c h.1, alternatives_of c h.0 h.1, refl))

pub certificate_reads : ReadsLines certificate_reader certificate_lines IsGood
certificate_reads =
    bound_reads (read_line {A = Unit {0}} (just (codes "precond 1")) (λ _. tt)) (λ _. version_line ∷ []) (λ _. Unit {0}) version_reads
    (λ _ s. read_line (graph limits) sizes_of s >>= (λ z. alternatives_reader z.0 0 ALTERNATIVES z.1 >>= (λ all. give all.1 (certificate_with z.0 all.0))))
    (λ _ c. sizes_line (sizes_in c) ∷ alternatives_lines c.variables c.alternatives) (λ _. IsGood) (λ _ _. sized_reads) certificate_lines IsGood (λ _ c _ g. (g, refl)) (λ c h. (tt, tt, h))
