-- What is read of a text is what it means, in any format.
use Rattle.std.proofs.Common.{◌≡◌, ◌∙◌, refl, ap, sym, subst, inl, inr, ◌⊎◌, ℕ, Bool, true, false, cond, List, [], ◌++◌, map, Option, Some, None, Result, Ok, Err}
use Rattle.std.specs.Prelude.{◌&&◌}
use Rattle.std.proofs.lemmas.Bool.{and_parts}
use Rattle.std.proofs.lemmas.List.{append-nil}
use Rattle.pc_text.specs.Bytes.{Bytes}
use Rattle.pc_text.specs.Words.{Words, is_empty}
use Rattle.pc_text.proofs.NumeralWords.{empty_is}
use Rattle.pc_text.proofs.WordLists.{joined}
use Rattle.pc_lines.specs.declared.fault.CertFault.{CertFault}
use Rattle.pc_lines.specs.declared.fault.CertFault.TheVariants as fault
use Rattle.pc_lines.specs.Texts.{lines_text}
use Rattle.pc_lines.specs.Faults.{Format, ended_lines, tail_of, fault_in_text}
use Rattle.pc_lines.specs.Readers.{◌>>=◌, Unread, Reader, unread, is_over, whole, read_of}
use Rattle.pc_lines.specs.Answers.{Gives, MeansBy, TextsDetermine, HaveOneAnswer}
use Rattle.pc_lines.proofs.EndedLines.{unread_of}
use Rattle.pc_lines.proofs.FaultReading.{FindsFault, fault_in_answer, whole_finds}
use Rattle.pc_lines.proofs.LineReading.{ReadsLines, ok_same}
use Rattle.pc_lines.proofs.Following.{bind_ok}
use Rattle.pc_lines.proofs.PlainTexts.{ArePlainLines, lines_of_text, text_of_lines}
use Rattle.pc_lines.proofs.Told.{unless_then}

nothing : (lines : List Bytes) (tail : Bytes) → (is_empty lines && is_empty tail) ≡ true → (lines ≡ []) × (tail ≡ [])
nothing lines tail h = let both = and_parts (is_empty lines) (is_empty tail) h in (empty_is lines both.0, empty_is tail both.1)

-- the reader reads the lines of the good values, finds the fault of others, and each good value has texts of plain words
pub record IsReader {A Wanted : Type 0} (format : Format Wanted) (first : List Wanted) (reader : Reader A) (lines : A → List Words) (good : A → Type 0) : Type 0 where
  pub reads : ReadsLines reader lines good
  pub finds : FindsFault format reader first
  pub plain : (x : A) → ArePlainLines (lines x)

module _ {A Wanted : Type 0} (format : Format Wanted) (first : List Wanted) (reader : Reader A) (lines : A → List Words) (good : A → Type 0) (is : IsReader format first reader lines good) where
  whole_by : (over : Bool) (x y : A) (n : ℕ) → cond over (Ok x) (Err (fault.Trailing n)) ≡ Ok y → (over ≡ true) × (x ≡ y)
  whole_by true x y n e = (refl, ok_same x y e)
  whole_by false x y n e = absurd (cc)

  -- a value that is read is one whose lines these are, with nothing behind them
  whole_sound : (s : Unread) (x : A) → whole reader s ≡ Ok x → good x × (s.lines ≡ map joined (lines x)) × (s.tail ≡ [])
  whole_sound s x e =
      let one = bind_ok (A × Unread) A (reader s) (λ y. cond (is_over y.1) (Ok y.0) (Err (fault.Trailing y.1.number))) x e in
      let left = one.0.1 in
      let over = whole_by (is_over left) one.0.0 x left.number one.2 in
      let none = nothing left.lines left.tail over.0 in
      let told = is.reads.sound s left one.0.0 one.1 in (
        subst good over.1 told.0,
        told.1.lines
            ∙ ap (λ rest. map joined (lines one.0.0) ++ rest) none.0
            ∙ append-nil (map joined (lines one.0.0))
            ∙ ap (λ y. map joined (lines y)) over.1,
        told.1.tail ∙ none.1,
      )

  -- the lines of a good value are read as that value
  whole_complete : (x : A) → good x → whole reader (unread_of 1 (map joined (lines x)) []) ≡ Ok x
  whole_complete x h =
      let one = is.reads.complete x h 1 [] [] in
      ap (λ ls. whole reader (unread_of 1 ls [])) (sym (append-nil (map joined (lines x))))
      ∙ ap (λ r. r >>= (λ y. cond (is_over y.1) (Ok y.0) (Err (fault.Trailing y.1.number)))) one.1

  module _ (IsText : Bytes → A → Type 0) (to : (b : Bytes) (x : A) → good x → b ≡ lines_text (lines x) → IsText b x) (fro : (b : Bytes) (x : A) → IsText b x → good x × (b ≡ lines_text (lines x)))
      (fault_of : Bytes → Option CertFault) (same : (b : Bytes) → fault_of b ≡ fault_in_text format first b) where
    read_is : (b : Bytes) (x : A) → read_of reader b ≡ Ok x → IsText b x
    read_is b x e =
        let told = whole_sound (unread_of 1 (ended_lines b) (tail_of b)) x e in
        to b x told.0 (text_of_lines b (lines x) told.1 told.2)

    is_read : (b : Bytes) (x : A) → IsText b x → read_of reader b ≡ Ok x
    is_read b x h =
        let told = fro b x h in
        let split = lines_of_text (lines x) (is.plain x) in
        ap (read_of reader) told.1
        ∙ ap (λ ls. whole reader (unread_of 1 ls (tail_of (lines_text (lines x))))) split.0
        ∙ ap (λ tail. whole reader (unread_of 1 (map joined (lines x)) tail)) split.1
        ∙ whole_complete x told.0

    fault_is : (b : Bytes) → fault_of b ≡ fault_in_answer (read_of reader b)
    fault_is b = same b ∙ whole_finds format reader first is.finds (unread_of 1 (ended_lines b) (tail_of b))

    -- an answer that is read of the text is right
    means_by : (b : Bytes) (r : Result A CertFault) → Gives (read_of reader b) r → MeansBy IsText fault_of b r
    means_by b (Ok x) g = read_is b x g
    means_by b (Err e) g = unless_then e (read_of reader b ≡ Err e) (fault_of b ≡ Some e) (λ h. fault_is b ∙ ap fault_in_answer h) g

    pub means : (b : Bytes) (s : Unread) (r : Result A CertFault) → s ≡ unread (record { rest = b; number = 1 }) → Gives (whole reader s) r → MeansBy IsText fault_of b r
    means b s r e g = means_by b r (subst (λ u. Gives (whole reader u) r) e g)

    -- and it is the value whose text this is
    pub only : (b : Bytes) (s : Unread) (r : Result A CertFault) → s ≡ unread (record { rest = b; number = 1 }) → Gives (whole reader s) r → (x : A) → IsText b x → Gives (Ok x) r
    only b s r e g x h = subst (λ answer. Gives answer r) (is_read b x h) (subst (λ u. Gives (whole reader u) r) e g)

    pub texts_determine : TextsDetermine IsText
    texts_determine b x y h g = ok_same x y (sym (is_read b x h) ∙ is_read b y g)

    one_by : (b : Bytes) (r : Result A CertFault) → read_of reader b ≡ r →
        ((x : A) × IsText b x × (fault_of b ≡ None)) ⊎ ((e : CertFault) × (fault_of b ≡ Some e) × ((x : A) → IsText b x → ⊥))
    one_by b (Ok x) e = inl (x, read_is b x e, fault_is b ∙ ap fault_in_answer e)
    one_by b (Err f) e = inr (f, fault_is b ∙ ap fault_in_answer e, λ x h. let both : ◌≡◌ {A = Result A CertFault} (Ok x) (Err f) = sym (is_read b x h) ∙ e in absurd (cc))

    pub have_one_answer : HaveOneAnswer IsText fault_of
    have_one_answer b = one_by b (read_of reader b) refl
