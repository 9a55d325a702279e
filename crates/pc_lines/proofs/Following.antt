-- A reader behind a reader reads the lines of both.
use Rattle.std.proofs.Common.{◌≡◌, ◌∙◌, refl, ap, sym, subst, ℕ, List, ◌++◌, map, append_assoc, Result, Ok, Err}
use Rattle.std.proofs.lemmas.List.{map-append}
use Rattle.pc_text.specs.Bytes.{Bytes}
use Rattle.pc_text.specs.Words.{Words}
use Rattle.pc_text.proofs.WordLists.{joined}
use Rattle.pc_lines.specs.declared.fault.CertFault.{CertFault}
use Rattle.pc_lines.specs.Readers.{◌>>=◌, Unread, Reader}
use Rattle.pc_lines.proofs.EndedLines.{unread_of}
use Rattle.pc_lines.proofs.LineReading.{AreTaken, ReadsLines, ok_same, give}

-- what was handed on
pub bind_ok : (A B : Type 0) (r : Result A CertFault) (f : A → Result B CertFault) (y : B) → (r >>= f) ≡ Ok y → (x : A) × (r ≡ Ok x) × (f x ≡ Ok y)
bind_ok A B (Ok x) f y e = (x, refl, e)
bind_ok A B (Err g) f y e = absurd (cc)

taken_both : (a b : List Words) (s mid left : Unread) → AreTaken a s mid → AreTaken b mid left → AreTaken (a ++ b) s left
taken_both a b s mid left h g = record {
  lines =
      h.lines
      ∙ ap (λ z. map joined a ++ z) g.lines
      ∙ sym (append_assoc (map joined a) (map joined b) left.lines)
      ∙ ap (λ z. z ++ left.lines) (sym (map-append joined a b));
  tail = h.tail ∙ g.tail;
}

-- lines before lines
lines_both : (a b : List Words) (rest : List Bytes) → map joined (a ++ b) ++ rest ≡ map joined a ++ (map joined b ++ rest)
lines_both a b rest = ap (λ z. z ++ rest) (map-append joined a b) ∙ append_assoc (map joined a) (map joined b) rest

-- a reader, and the one that hangs on what it gave
abbrev pub bound : {A B : Type 0} → Reader A → (A → Reader B) → Reader B
bound r rest s = r s >>= (λ x. rest x.0 x.1)

-- the same, where both give a part of what is read
abbrev pub followed : {A B C : Type 0} → Reader A → (A → Reader B) → (A → B → C) → Reader C
followed r rest make s = r s >>= (λ x. rest x.0 x.1 >>= (λ y. give y.1 (make x.0 y.0)))

module _ {A B : Type 0} (r : Reader A) (before : A → List Words) (first : A → Type 0) (one : ReadsLines r before first)
    (rest : A → Reader B) (behind : A → B → List Words) (then : A → B → Type 0) (two : (x : A) → first x → ReadsLines (rest x) (behind x) (then x)) where
  module _ (lines : B → List Words) (good : B → Type 0) (to : (x : A) (y : B) → first x → then x y → good y × (lines y ≡ before x ++ behind x y))
      (fro : (y : B) → good y → (x : A) × first x × then x y) where
    bound_sound : (s left : Unread) (y : B) → bound r rest s ≡ Ok (y, left) → good y × AreTaken (lines y) s left
    bound_sound s left y e =
        let told = bind_ok (A × Unread) (B × Unread) (r s) (λ x. rest x.0 x.1) (y, left) e in
        let x = told.0 in
        let h = one.sound s x.1 x.0 told.1 in
        let g = (two x.0 h.0).sound x.1 left y told.2 in
        let made = to x.0 y h.0 g.0 in
        (made.0, subst (λ ls. AreTaken ls s left) (sym made.1) (taken_both (before x.0) (behind x.0 y) s x.1 left h.1 g.1))

    bound_by : (x : A) (y : B) → first x → then x y → (n : ℕ) (more : List Bytes) (tail : Bytes) → (m : ℕ) × (bound r rest (unread_of n (map joined (lines y) ++ more) tail) ≡ Ok (y, unread_of m more tail))
    bound_by x y h g n more tail =
        let a = one.complete x h n (map joined (behind x y) ++ more) tail in
        let b = (two x h).complete y g a.0 more tail in (
          b.0,
          ap (λ ls. bound r rest (unread_of n (map joined ls ++ more) tail)) (to x y h g).1
              ∙ ap (λ ls. bound r rest (unread_of n ls tail)) (lines_both (before x) (behind x y) more)
              ∙ ap (λ t. t >>= (λ x. rest x.0 x.1)) a.1
              ∙ b.1,
        )

    pub bound_reads : ReadsLines (bound r rest) lines good
    bound_reads = record { sound = bound_sound; complete = λ y h n more tail. let is = fro y h in bound_by is.0 y is.1 is.2 n more tail }

  module _ {C : Type 0} (make : A → B → C) (lines : C → List Words) (good : C → Type 0) (to : (x : A) (y : B) → first x → then x y → good (make x y) × (lines (make x y) ≡ before x ++ behind x y))
      (fro : (z : C) → good z → (x : A) × (y : B) × first x × then x y × (make x y ≡ z)) where
    followed_sound : (s left : Unread) (z : C) → followed r rest make s ≡ Ok (z, left) → good z × AreTaken (lines z) s left
    followed_sound s left z e =
        let told = bind_ok (A × Unread) (C × Unread) (r s) (λ x. rest x.0 x.1 >>= (λ y. give y.1 (make x.0 y.0))) (z, left) e in
        let x = told.0 in
        let more = bind_ok (B × Unread) (C × Unread) (rest x.0 x.1) (λ y. give y.1 (make x.0 y.0)) (z, left) told.2 in
        let y = more.0 in
        let both = ok_same (make x.0 y.0, y.1) (z, left) more.2 in
        let is : make x.0 y.0 ≡ z = ap (λ (p : C × Unread). p.0) both in
        let same : y.1 ≡ left = ap (λ (p : C × Unread). p.1) both in
        let h = one.sound s x.1 x.0 told.1 in
        let g = (two x.0 h.0).sound x.1 y.1 y.0 more.1 in
        let made = to x.0 y.0 h.0 g.0 in
        let taken = subst (λ ls. AreTaken ls s y.1) (sym made.1) (taken_both (before x.0) (behind x.0 y.0) s x.1 y.1 h.1 g.1) in
        (subst good is made.0, subst (λ w. AreTaken (lines w) s left) is (subst (AreTaken (lines (make x.0 y.0)) s) same taken))

    followed_by : (x : A) (y : B) (z : C) → first x → then x y → make x y ≡ z → (n : ℕ) (more : List Bytes) (tail : Bytes) →
        (m : ℕ) × (followed r rest make (unread_of n (map joined (lines z) ++ more) tail) ≡ Ok (z, unread_of m more tail))
    followed_by x y z h g is n more tail =
        let a = one.complete x h n (map joined (behind x y) ++ more) tail in
        let b = (two x h).complete y g a.0 more tail in (
          b.0,
          ap (λ ls. followed r rest make (unread_of n (map joined ls ++ more) tail)) (ap lines (sym is) ∙ (to x y h g).1)
              ∙ ap (λ ls. followed r rest make (unread_of n ls tail)) (lines_both (before x) (behind x y) more)
              ∙ ap (λ t. t >>= (λ x. rest x.0 x.1 >>= (λ y. give y.1 (make x.0 y.0)))) a.1
              ∙ ap (λ t. t >>= (λ y. give y.1 (make x y.0))) b.1
              ∙ ap (give (unread_of b.0 more tail)) is,
        )

    pub followed_reads : ReadsLines (followed r rest make) lines good
    followed_reads = record { sound = followed_sound; complete = λ z h n more tail. let is = fro z h in followed_by is.0 is.1 z is.2 is.3 is.4 n more tail }
