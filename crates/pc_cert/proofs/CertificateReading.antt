-- The reader of alternatives reads their lines.
use Rattle.std.proofs.Common.{◌≡◌, refl, ap, subst, ℕ, zero, suc, ◌+◌, ◌<◌, ◌≤◌, Bool, true, false, cond, List, [], ◌∷◌, ◌++◌, map, append_assoc, Result, Ok, arith}
use Rattle.std.specs.Prelude.{codes}
use Rattle.std.specs.List.{flat_map}
use Rattle.pc_text.specs.Bytes.{Bytes}
use Rattle.pc_text.specs.Words.{Words}
use Rattle.pc_text.proofs.WordLists.{joined}
use Rattle.pc_rows.specs.declared.row.TheConstants.{VARIABLES}
use Rattle.pc_lines.specs.declared.fault.CertFault.{CertFault}
use Rattle.pc_lines.specs.declared.sizes.Sizes.{Sizes}
use Rattle.pc_lines.specs.Readers.{◌>>=◌, Unread, Reader}
use Rattle.pc_lines.proofs.EndedLines.{unread_of}
use Rattle.pc_lines.proofs.LineReading.{AreTaken, ReadsLines, ok_same, give}
use Rattle.pc_lines.proofs.ListReading.{AreFew}
use Rattle.pc_lines.proofs.Following.{bound_reads, followed_reads}
use Rattle.pc_certificate.specs.declared.certificate.Annotated.{Annotated}
use Rattle.pc_certificate.specs.declared.certificate.TheConstants.{ALTERNATIVES}
use Rattle.pc_cert.specs.CertificateTexts.{alternative_lines}
use Rattle.pc_cert.specs.Readers.{annotated_reader, begins, alternatives_reader}
use Rattle.pc_cert.proofs.AlternativeReading.{IsWhole, annotated_lines, annotated_reads, next_line, HasRoom, begins_reads}

-- what is read behind the line that may begin an alternative, behind `n` others, where `k` may follow it
abbrev pub read_one : Sizes → ℕ → ℕ → Bool → Reader (List Annotated)
read_one z n k more s = cond more (annotated_reader z s >>= (λ a. alternatives_reader z (n + 1) k a.1 >>= (λ others. give others.1 (a.0 ∷ others.0)))) (give s [])

abbrev pub alternatives_lines : ℕ → List Annotated → List Words
alternatives_lines v all = flat_map (alternative_lines v) all ++ (codes "end" ∷ []) ∷ []

is_more : List Annotated → Bool
is_more [] = false
is_more (a ∷ all) = true

-- the lines behind the first
behind_first : ℕ → List Annotated → List Words
behind_first v [] = []
behind_first v (a ∷ all) = annotated_lines v a ++ alternatives_lines v all

lines_are : (v : ℕ) (more : Bool) (all : List Annotated) → is_more all ≡ more → alternatives_lines v all ≡ (next_line more ∷ []) ++ behind_first v all
unfolding is_more behind_first
lines_are v true [] e = absurd (cc)
lines_are v false [] e = refl
lines_are v true (a ∷ all) e = append_assoc (alternative_lines v a) (flat_map (alternative_lines v) all) ((codes "end" ∷ []) ∷ [])
lines_are v false (a ∷ all) e = absurd (cc)

-- so many alternatives at most, and some exactly where there is more
record AreRest (z : Sizes) (k : ℕ) (more : Bool) (all : List Annotated) : Type 0 where
  few : AreFew (IsWhole z) k all
  some : is_more all ≡ more

module _ (z : Sizes) (k : ℕ) where
  end_sound : (s left : Unread) (all : List Annotated) → ◌≡◌ {A = Result (List Annotated × Unread) CertFault} (give s []) (Ok (all, left)) → AreRest z k false all × AreTaken (behind_first z.variables all) s left
  unfolding is_more behind_first
  end_sound s left [] e =
      let same : s ≡ left = ap (λ (x : List Annotated × Unread). x.1) (ok_same ([], s) ([], left) e) in
      (record { few = record { few = omega arith; each = tt }; some = refl }, subst (AreTaken [] s) same (record { lines = refl; tail = refl }))
  end_sound s left (a ∷ all) e = let none : [] ≡ a ∷ all = ap (λ (x : List Annotated × Unread). x.0) (ok_same ([], s) (a ∷ all, left) e) in absurd (cc)

  end_complete : (all : List Annotated) → AreRest z k false all → (n : ℕ) (rest : List Bytes) (tail : Bytes) →
      (m : ℕ) × (◌≡◌ {A = Result (List Annotated × Unread) CertFault} (give (unread_of n (map joined (behind_first z.variables all) ++ rest) tail) []) (Ok (all, unread_of m rest tail)))
  unfolding is_more behind_first
  end_complete [] h n rest tail = (n, refl)
  end_complete (a ∷ all) h n rest tail = let none = h.some in absurd (cc)

module _ (z : Sizes) (most : z.variables ≤ VARIABLES) where
  one_more : (k : ℕ) (all : List Annotated) → AreRest z (suc k) true all → (a : Annotated) × (others : List Annotated) × IsWhole z a × AreFew (IsWhole z) k others × (a ∷ others ≡ all)
  unfolding is_more
  one_more k [] h = let some = h.some in absurd (cc)
  one_more k (a ∷ all) h = let few = h.few.few in (a, all, h.few.each.0, record { few = omega arith; each = h.few.each.1 }, refl)

  reads_one : (n k : ℕ) → ReadsLines (alternatives_reader z (n + 1) k) (alternatives_lines z.variables) (AreFew (IsWhole z) k) → (more : Bool) →
      ReadsLines (read_one z n k more) (behind_first z.variables) (AreRest z (suc k) more)
  unfolding is_more behind_first
  reads_one n k again true =
      followed_reads (annotated_reader z) (annotated_lines z.variables) (IsWhole z) (annotated_reads z most) (λ _. alternatives_reader z (n + 1) k) (λ _. alternatives_lines z.variables) (λ _. AreFew (IsWhole z) k)
      (λ _ _. again) (λ a others. a ∷ others) (behind_first z.variables) (AreRest z (suc k) true)
      (λ a others h g. let few = g.few in (record { few = record { few = omega arith; each = (h, g.each) }; some = refl }, refl)) (one_more k)
  reads_one n k again false = record { sound = end_sound z (suc k); complete = end_complete z (suc k) }

  last_one : (n : ℕ) → n + 0 ≡ ALTERNATIVES → (more : Bool) → HasRoom n more → ReadsLines (λ s. give s []) (behind_first z.variables) (AreRest z 0 more)
  last_one n room true h = let less : n < ALTERNATIVES = h refl in absurd (omega arith)
  last_one n room false h = record { sound = end_sound z 0; complete = end_complete z 0 }

  may_be_more : (k n : ℕ) (all : List Annotated) → n + k ≡ ALTERNATIVES → AreFew (IsWhole z) k all → HasRoom n (is_more all)
  unfolding is_more
  may_be_more k n [] room h = λ e. absurd (cc)
  may_be_more k n (a ∷ all) room h = let few = h.few in λ e. omega arith

  pub alternatives_read : (k n : ℕ) → n + k ≡ ALTERNATIVES → ReadsLines (alternatives_reader z n k) (alternatives_lines z.variables) (AreFew (IsWhole z) k)
  unfolding alternatives_reader
  alternatives_read zero n room =
      bound_reads (begins n) (λ more. next_line more ∷ []) (HasRoom n) (begins_reads n) (λ more s. give s []) (λ more. behind_first z.variables) (AreRest z 0) (last_one n room)
      (alternatives_lines z.variables) (AreFew (IsWhole z) 0) (λ more all h g. (g.few, lines_are z.variables more all g.some)) (λ all h. (is_more all, may_be_more 0 n all room h, record { few = h; some = refl }))
  alternatives_read (suc k) n room =
      bound_reads (begins n) (λ more. next_line more ∷ []) (HasRoom n) (begins_reads n) (read_one z n k) (λ more. behind_first z.variables) (AreRest z (suc k)) (λ more h. reads_one n k (alternatives_read k (n + 1) (omega arith)) more)
      (alternatives_lines z.variables) (AreFew (IsWhole z) (suc k)) (λ more all h g. (g.few, lines_are z.variables more all g.some)) (λ all h. (is_more all, may_be_more (suc k) n all room h, record { few = h; some = refl }))
