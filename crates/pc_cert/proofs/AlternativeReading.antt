-- The readers of alternatives read their lines.
use Rattle.std.proofs.Common.{◌≡◌, refl, sym, ℕ, ◌<◌, ◌≤◌, ltb, Bool, true, false, cond, not, List, [], ◌∷◌, ◌++◌, arith}
use Rattle.std.specs.Prelude.{◌||◌, codes}
use Rattle.std.proofs.lemmas.Bool.{lt-ltb}
use borrow.Author.Tests.{ltb-true}
use Rattle.pc_rows.specs.declared.row.TheConstants.{VARIABLES}
use Rattle.pc_rows.specs.declared.rows.TheConstants.{ROWS}
use Rattle.pc_rows.specs.declared.system.TheConstants.{PREMISES}
use Rattle.pc_rows.specs.Linear.{Linear}
use Rattle.pc_rows.specs.Evidence.{Proof}
use Rattle.pc_certificate.specs.declared.certificate.Annotated.{Annotated}
use Rattle.pc_lines.specs.declared.sizes.Sizes.{Sizes}
use Rattle.pc_certificate.specs.declared.certificate.TheConstants.{ALTERNATIVES}
use Rattle.pc_text.specs.Words.{Words, words}
use Rattle.pc_lines.specs.Forms.{is_just}
use Rattle.pc_lines.specs.Kinds.{head, row, proof}
use Rattle.pc_cert.specs.Faults.{is_end, next}
use Rattle.pc_lines.specs.Readers.{repeated, row_value, proof_value, row_reader, proof_reader}
use Rattle.pc_cert.specs.Readers.{point_reader, edge_reader, annotated_reader, goes_on, begins}
use Rattle.pc_lines.specs.Texts.{counts, row_line, proof_line, numbered}
use Rattle.pc_cert.specs.CertificateTexts.{point_lines, edge_lines}
use Rattle.pc_lines.proofs.NamedLines.{just_is}
use Rattle.pc_text.proofs.PlainWords.{IsPlain, ArePlain}
use Rattle.pc_lines.proofs.RowSpelling.{IsRowOver, row_spelled}
use Rattle.pc_lines.proofs.ProofSpelling.{IsProofOf, proof_spelled}
use Rattle.pc_lines.proofs.HeadSpelling.{head_spelled}
use Rattle.pc_lines.proofs.LineReading.{ReadsLines, line_reads}
use Rattle.pc_lines.proofs.ListReading.{AreGood, AreFew, repeated_reads, headed_reads}
use Rattle.pc_lines.proofs.Following.{followed_reads}

-- ---- points and edges

abbrev pub IsPoint : ℕ → List Linear → Type 0
IsPoint v = AreFew (IsRowOver v) ROWS

abbrev pub IsEdge : List Proof → Type 0
IsEdge = AreFew (IsProofOf PREMISES) PREMISES

pub point_plain : IsPlain (codes "point")
point_plain = (omega arith, (omega arith, (omega arith, (omega arith, (omega arith, tt)))))

pub edge_plain : IsPlain (codes "edge")
edge_plain = (omega arith, (omega arith, (omega arith, (omega arith, tt))))

pub point_reads : (v : ℕ) → v ≤ VARIABLES → (p : ℕ) → ReadsLines (point_reader v p) (point_lines v p) (IsPoint v)
point_reads v most p =
    headed_reads (head (codes "point") p ROWS) (λ k. counts (codes "point") (p ∷ k ∷ [])) ROWS (head_spelled (codes "point") point_plain p ROWS) (row_reader v) (row_line v) (IsRowOver v)
    (line_reads (row v) (row_value v) (row_line v) (IsRowOver v) (row_spelled v most))

pub edge_reads : (e : ℕ) → ReadsLines (edge_reader e) (edge_lines e) IsEdge
edge_reads e =
    headed_reads (head (codes "edge") e PREMISES) (λ k. counts (codes "edge") (e ∷ k ∷ [])) PREMISES (head_spelled (codes "edge") edge_plain e PREMISES) (proof_reader PREMISES) proof_line (IsProofOf PREMISES)
    (line_reads (proof PREMISES) proof_value proof_line (IsProofOf PREMISES) (proof_spelled PREMISES (omega arith)))

-- ---- what stands behind the beginning of an alternative

abbrev pub annotated_with : List (List Linear) → List (List Proof) → Annotated
annotated_with rows proofs = record { rows = rows; proofs = proofs }

pub record IsWhole (z : Sizes) (a : Annotated) : Type 0 where
  pub rows : AreGood (IsPoint z.variables) z.points a.rows
  pub proofs : AreGood IsEdge z.edges a.proofs

abbrev pub annotated_lines : ℕ → Annotated → List Words
annotated_lines v a = numbered (point_lines v) 0 a.rows ++ numbered edge_lines 0 a.proofs

module _ (z : Sizes) (most : z.variables ≤ VARIABLES) where
  rows_are : ReadsLines (repeated (point_reader z.variables) 0 z.points) (numbered (point_lines z.variables) 0) (AreGood (IsPoint z.variables) z.points)
  rows_are = repeated_reads (point_reader z.variables) (point_lines z.variables) (IsPoint z.variables) (point_reads z.variables most) 0 z.points

  proofs_are : ReadsLines (repeated edge_reader 0 z.edges) (numbered edge_lines 0) (AreGood IsEdge z.edges)
  proofs_are = repeated_reads edge_reader edge_lines IsEdge edge_reads 0 z.edges

  pub annotated_reads : ReadsLines (annotated_reader z) (annotated_lines z.variables) (IsWhole z)
  annotated_reads =
      followed_reads (repeated (point_reader z.variables) 0 z.points) (numbered (point_lines z.variables) 0) (AreGood (IsPoint z.variables) z.points) rows_are
      (λ _. repeated edge_reader 0 z.edges) (λ _. numbered edge_lines 0) (λ _. AreGood IsEdge z.edges) (λ _ _. proofs_are) annotated_with
      (annotated_lines z.variables) (IsWhole z) (λ rows proofs h g. (record { rows = h; proofs = g }, refl)) (λ a h. (a.rows, a.proofs, h.rows, h.proofs, refl))

-- ---- the line that begins an alternative, or the end

abbrev pub next_line : Bool → Words
next_line more = cond more (codes "alternative" ∷ []) (codes "end" ∷ [])

-- there is room for a further alternative
abbrev pub HasRoom : ℕ → Bool → Type 0
HasRoom n more = more ≡ true → n < ALTERNATIVES

next_by : (n : ℕ) (ws : Words) (t : Bool) → is_end ws ≡ t → (is_just (words (codes "alternative")) ws || t) ≡ true → (t || ltb n ALTERNATIVES) ≡ true →
    HasRoom n (not t) × (next_line (not t) ≡ ws)
next_by n ws true e h k = (λ f. absurd (cc), sym (just_is (words (codes "end")) ws e))
next_by n ws false e h k = (λ f. ltb-true n ALTERNATIVES k, sym (just_is (words (codes "alternative")) ws (or_false (is_just (words (codes "alternative")) ws) h)))
  where
    or_false : (b : Bool) → (b || false) ≡ true → b ≡ true
    or_false true h = refl
    or_false false h = h

pub alternative_plain : IsPlain (codes "alternative")
alternative_plain = (omega arith, (omega arith, (omega arith, (omega arith, (omega arith, (omega arith, (omega arith, (omega arith, (omega arith, (omega arith, (omega arith, tt)))))))))))

pub end_plain : IsPlain (codes "end")
end_plain = (omega arith, (omega arith, (omega arith, tt)))

next_plain : (more : Bool) → ArePlain (next_line more)
next_plain true = ((alternative_plain, tt), refl)
next_plain false = ((end_plain, tt), refl)

next_form : (more : Bool) → (is_just (words (codes "alternative")) (next_line more) || is_end (next_line more)) ≡ true
next_form true = refl
next_form false = refl

next_rules : (n : ℕ) (more : Bool) → HasRoom n more → (is_end (next_line more) || ltb n ALTERNATIVES) ≡ true
next_rules n true h = lt-ltb n ALTERNATIVES (h refl)
next_rules n false h = refl

next_forth : (more : Bool) → goes_on (next_line more) ≡ more
next_forth true = refl
next_forth false = refl

pub begins_reads : (n : ℕ) → ReadsLines (begins n) (λ more. next_line more ∷ []) (HasRoom n)
begins_reads n = line_reads (next n) goes_on next_line (HasRoom n) (record {
  back = λ ws h k. next_by n ws (is_end ws) refl h k;
  plain = λ more h. next_plain more;
  form = λ more h. next_form more;
  rules = next_rules n;
  forth = λ more h. next_forth more;
})
