-- Readers that are repeated read the lines of lists.
use Rattle.std.proofs.Common.{◌≡◌, ◌∙◌, refl, ap, sym, subst, ℕ, zero, suc, ◌+◌, ◌≤◌, List, [], ◌∷◌, ◌++◌, length, map, Result, Ok, arith}
use Rattle.std.specs.List.{AllByRecursion}
use Rattle.pc_text.specs.Bytes.{Bytes}
use Rattle.pc_lines.specs.declared.fault.CertFault.{CertFault}
use Rattle.pc_text.specs.Words.{Words}
use Rattle.pc_lines.specs.Forms.{number_at}
use Rattle.pc_lines.specs.Kinds.{Kind}
use Rattle.pc_lines.specs.Readers.{Unread, Reader, repeated, read_line, headed}
use Rattle.pc_lines.specs.Texts.{numbered}
use Rattle.pc_text.proofs.WordLists.{joined}
use Rattle.pc_lines.proofs.Spelled.{IsSpelled}
use Rattle.pc_lines.proofs.LineReading.{AreTaken, ReadsLines, ok_same, line_reads}
use Rattle.pc_lines.proofs.Following.{bound_reads, followed_reads}
use Rattle.pc_lines.proofs.EndedLines.{unread_of}

-- so many good values
pub record AreGood {A : Type 0} (good : A → Type 0) (k : ℕ) (xs : List A) : Type 0 where
  pub count : length xs ≡ k
  pub each : AllByRecursion good xs

module _ {A : Type 0} (r : ℕ → Reader A) (lines : ℕ → A → List Words) (good : A → Type 0) (is : (i : ℕ) → ReadsLines (r i) (lines i) good) where
  none_sound : (i : ℕ) (s left : Unread) (xs : List A) → ◌≡◌ {A = Result (List A × Unread) CertFault} (Ok ([], s)) (Ok (xs, left)) → AreGood good 0 xs × AreTaken (numbered lines i xs) s left
  none_sound i s left xs e =
      let both = ok_same ([], s) (xs, left) e in
      let none : [] ≡ xs = ap (λ (z : List A × Unread). z.0) both in
      let same : s ≡ left = ap (λ (z : List A × Unread). z.1) both in (
        subst (AreGood good 0) none (record { count = refl; each = tt }),
        subst (λ ys. AreTaken (numbered lines i ys) s left) none (record { lines = ap (λ (u : Unread). u.lines) same; tail = ap (λ (u : Unread). u.tail) same }),
      )

  none_complete : (i : ℕ) (xs : List A) → AreGood good 0 xs → (n : ℕ) (rest : List Bytes) (tail : Bytes) →
      (m : ℕ) × (◌≡◌ {A = Result (List A × Unread) CertFault} (Ok ([], unread_of n (map joined (numbered lines i xs) ++ rest) tail)) (Ok (xs, unread_of m rest tail)))
  none_complete i [] h n rest tail = (n, refl)
  none_complete i (x ∷ xs) h n rest tail = let counted = h.count in absurd (omega arith)

  one_more : (k : ℕ) (xs : List A) → AreGood good (suc k) xs → (x : A) × (ys : List A) × good x × AreGood good k ys × (x ∷ ys ≡ xs)
  one_more k [] h = let counted = h.count in absurd (omega arith)
  one_more k (x ∷ xs) h = let counted = h.count in (x, xs, h.each.0, record { count = omega arith; each = h.each.1 }, refl)

  -- so many values, one after another
  pub repeated_reads : (i k : ℕ) → ReadsLines (repeated r i k) (numbered lines i) (AreGood good k)
  repeated_reads i zero = record { sound = none_sound i; complete = none_complete i }
  repeated_reads i (suc k) =
      followed_reads (r i) (lines i) good (is i) (λ _. repeated r (i + 1) k) (λ _. numbered lines (i + 1)) (λ _. AreGood good k) (λ _ _. repeated_reads (i + 1) k) (λ x xs. x ∷ xs)
      (numbered lines i) (AreGood good (suc k)) (λ x xs h g. let counted = g.count in (record { count = omega arith; each = (h, g.each) }, refl)) (one_more k)

singles : {A : Type 0} (line : A → Words) (i : ℕ) (xs : List A) → numbered (λ _ x. line x ∷ []) i xs ≡ map line xs
singles line i [] = refl
singles line i (x ∷ xs) = ap (λ ls. line x ∷ ls) (singles line (i + 1) xs)

-- not more good values than that
pub record AreFew {A : Type 0} (good : A → Type 0) (most : ℕ) (xs : List A) : Type 0 where
  pub few : length xs ≤ most
  pub each : AllByRecursion good xs

-- a count, and then so many lines
pub headed_reads : {A : Type 0} (kind : Kind) (counted : ℕ → Words) (most : ℕ) (spelled : IsSpelled kind (number_at 2) counted (λ k. k ≤ most)) (r : Reader A) (line : A → Words) (good : A → Type 0) →
    ReadsLines r (λ x. line x ∷ []) good → ReadsLines (headed kind r) (λ xs. counted (length xs) ∷ map line xs) (AreFew good most)
headed_reads kind counted most spelled r line good is =
    bound_reads (read_line kind (number_at 2)) (λ k. counted k ∷ []) (λ k. k ≤ most) (line_reads kind (number_at 2) counted (λ k. k ≤ most) spelled)
    (λ k. repeated (λ _. r) 0 k) (λ k. numbered (λ _ x. line x ∷ []) 0) (λ k. AreGood good k) (λ k _. repeated_reads (λ _. r) (λ _ x. line x ∷ []) good (λ _. is) 0 k)
    (λ xs. counted (length xs) ∷ map line xs) (AreFew good most)
    (λ k xs h g. let many = g.count in (record { few = omega arith; each = g.each }, ap (λ n. counted n ∷ map line xs) many ∙ ap (λ ls. counted k ∷ ls) (sym (singles line 0 xs))))
    (λ xs h. (length xs, h.few, record { count = refl; each = h.each }))
