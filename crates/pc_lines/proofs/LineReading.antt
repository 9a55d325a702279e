-- What it is that a reader reads the lines of a value, and that the next line is read so.
use Rattle.std.proofs.Common.{◌≡◌, ◌∙◌, refl, ap, sym, subst, ℕ, ◌+◌, Bool, true, false, cond, List, [], ◌∷◌, ◌++◌, map, Some, None, Result, Ok}
use Rattle.pc_text.specs.Bytes.{Bytes}
use Rattle.pc_lines.specs.declared.fault.CertFault.{CertFault}
use Rattle.pc_lines.specs.declared.fault.CertFault.TheVariants as fault
use Rattle.pc_text.specs.Words.{Words, words}
use Rattle.pc_lines.specs.Kinds.{Kind}
use Rattle.pc_lines.specs.Readers.{◌>>=◌, Unread, Reader, unless_fault, line_value, read_line}
use Rattle.pc_text.proofs.WordLists.{joined, line_of_words}
use Rattle.pc_text.proofs.PlainWords.{words_of_line}
use Rattle.pc_lines.proofs.Spelled.{IsSpelled}
use Rattle.pc_lines.proofs.EndedLines.{unread_of}

-- these lines stood before what is left
pub record AreTaken (ls : List Words) (s left : Unread) : Type 0 where
  pub lines : s.lines ≡ map joined ls ++ left.lines
  pub tail : s.tail ≡ left.tail

-- a reader reads just the lines of the good values
pub record ReadsLines {A : Type 0} (r : Reader A) (lines : A → List Words) (good : A → Type 0) : Type 0 where
  pub sound : (s left : Unread) (x : A) → r s ≡ Ok (x, left) → good x × AreTaken (lines x) s left
  pub complete : (x : A) → good x → (n : ℕ) (rest : List Bytes) (tail : Bytes) → (m : ℕ) × (r (unread_of n (map joined (lines x) ++ rest) tail) ≡ Ok (x, unread_of m rest tail))

-- ---- the next line

pub ok_same : {B : Type 0} (x y : B) → ◌≡◌ {A = Result B CertFault} (Ok x) (Ok y) → x ≡ y
ok_same x y e = cc

abbrev pub give : {A : Type 0} → Unread → A → Result (A × Unread) CertFault
give left x = Ok (x, left)

told_by : (A : Type 0) (form rules : Bool) (n : ℕ) (x y : A) (left after : Unread) →
    (unless_fault (cond form (cond rules None (Some (fault.Number n))) (Some (fault.Form n))) x >>= give left) ≡ Ok (y, after) → (form ≡ true) × (rules ≡ true) × (x ≡ y) × (left ≡ after)
told_by A true true n x y left after e = let both : (x, left) ≡ (y, after) = ok_same (x, left) (y, after) e in (refl, refl, ap (λ (z : A × Unread). z.0) both, ap (λ (z : A × Unread). z.1) both)
told_by A true false n x y left after e = absurd (cc)
told_by A false rules n x y left after e = absurd (cc)

module _ {A : Type 0} (kind : Kind) (value : Words → A) (line : A → Words) (good : A → Type 0) (is : IsSpelled kind value line good) where
  sound_by : (n : ℕ) (ls : List Bytes) (tail : Bytes) (left : Unread) (x : A) → read_line kind value (unread_of n ls tail) ≡ Ok (x, left) →
      good x × AreTaken (line x ∷ []) (unread_of n ls tail) left
  sound_by n [] tail left x e = absurd (cc)
  sound_by n (l ∷ ls) tail left x e =
      let told = told_by A (kind.has_form (words l)) (kind.keeps_rules (words l)) n (value (words l)) x (unread_of (n + 1) ls tail) left e in
      let back = is.back (words l) told.0 told.1 in
      let spelled : joined (line x) ≡ l = ap (λ y. joined (line y)) (sym told.2) ∙ ap joined back.1 ∙ line_of_words l in (
        subst good told.2 back.0,
        record {
          lines = ap (λ z. z ∷ ls) (sym spelled) ∙ ap (λ (u : Unread). joined (line x) ∷ u.lines) told.3;
          tail = ap (λ (u : Unread). u.tail) told.3;
        },
      )

  value_by : (n : ℕ) (l : Bytes) (x : A) → words l ≡ line x → good x → line_value kind value n (words l) ≡ Ok x
  value_by n l x e h =
      ap (line_value kind value n) e
      ∙ rw (is.form x h, is.rules x h) (ap Ok (is.forth x h))

  -- a line that spells a value is read as that value
  pub line_reads : ReadsLines (read_line kind value) (λ x. line x ∷ []) good
  line_reads = record {
    sound = λ s left x e. sound_by s.number s.lines s.tail left x e;
    complete = λ x h n rest tail.
        (n + 1, ap (λ r. r >>= give (unread_of (n + 1) rest tail)) (value_by n (joined (line x)) x (words_of_line (line x) (is.plain x h)) h));
  }
