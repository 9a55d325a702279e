-- Names of the language differ, and stand apart from the numbers and signs around them.
use Rattle.std.proofs.Common.{◌≡◌, ◌≢◌, ◌⊎◌, inl, inr, ℕ, ◌<◌, ◌≤◌, Bool, true, false, ◌&&◌, leb, List, [], ◌∷◌, get_or, Some, refl, sym, ap, ◌∙◌, arith}
use Rattle.std.specs.Prelude.{All}
use Rattle.std.specs.List.{AllByRecursion, AllPairs}
use Rattle.std.proofs.lemmas.List.Elements.{All-head, All-tail}
use Rattle.std.proofs.lemmas.Bool.{cases_lt, agree_below_at, and_parts, leb-true, false≢true}
use Rattle.std.proofs.lemmas.Option.{slice_get-get_or}
use Rattle.pc_text.specs.declared.lexeme.Form.TheVariants as form
use Rattle.pc_text.specs.declared.lexeme.Class.{Class}
use Rattle.pc_text.specs.declared.lexeme.Class.TheVariants.{Letter}
use Rattle.pc_text.specs.Bytes.{Bytes}
use Rattle.pc_text.specs.Lexemes.{HasForm, EachPasses, class, in_word}
use Rattle.pc_text.specs.Named.{AreDistinct, number_of}
use Rattle.pc_text.proofs.Splits.{Begins}

-- the bytes of the parts of a sum: digits, letters, `_` and `*`, and never `>`
abbrev pub IsPartByte : ℕ → Type 0
IsPartByte b = (42 ≤ b) × (b ≢ 62)

-- a name begins with no digit, and holds none of the bytes that end a part
pub record StandsAlone (name : Bytes) : Type 0 where
  pub begins : Begins (λ b. 58 ≤ b) name
  pub bytes : AllByRecursion IsPartByte name

is_letter : Class → Bool
is_letter Letter = true
is_letter _ = false

is_digit : ℕ → Bool
is_digit b = leb 48 b && leb b 57

letter_by : (b : ℕ) → class b ≡ Letter → (b < 63) ⊎ (63 ≤ b) → 63 ≤ b
unfolding class is_letter
letter_by b letter (inl small) =
    absurd (false≢true (sym (agree_below_at (λ c. is_letter (class c)) (λ _. false) 63 b refl small) ∙ ap is_letter letter))
letter_by b letter (inr large) = large

-- letters come after the digits and `>`
letter_byte : (b : ℕ) → class b ≡ Letter → 63 ≤ b
letter_byte b letter = letter_by b letter (cases_lt b 63)

word_by : (b : ℕ) → in_word b ≡ true → (b < 63) ⊎ (63 ≤ b) → IsPartByte b
unfolding class is_digit
word_by b word (inl small) =
    let digit : (leb 48 b && leb b 57) ≡ true = sym (agree_below_at in_word is_digit 63 b refl small) ∙ word in
    let both = and_parts (leb 48 b) (leb b 57) digit in
    let low = leb-true 48 b both.0 in
    let high = leb-true b 57 both.1 in
    (omega arith, λ e. absurd (omega arith))
word_by b word (inr large) = (omega arith, λ e. absurd (omega arith))

word_bytes : (u : Bytes) → EachPasses in_word u → AllByRecursion IsPartByte u
word_bytes [] h = tt
word_bytes (b ∷ u) h = (word_by b h.0 (cases_lt b 63), word_bytes u h.1)

name_stands_alone : (name : Bytes) → HasForm form.Word name → StandsAlone name
name_stands_alone [] h = absurd h
name_stands_alone (b ∷ u) h =
    let first = letter_byte b h.0 in
    record { begins = omega arith; bytes = ((omega arith, λ e. absurd (omega arith)), word_bytes u h.1) }

pub all_stand_alone : (names : List Bytes) → All (HasForm form.Word) names → AllByRecursion StandsAlone names
all_stand_alone [] h = tt
all_stand_alone (name ∷ names) h =
    (name_stands_alone name (All-head (HasForm form.Word) name names h), all_stand_alone names (All-tail (HasForm form.Word) name names h))

-- no name stands at two places
pub all_differ : (names : List Bytes) → AreDistinct names → AllPairs ◌≢◌ names
all_differ names distinct = λ i j d before within.
    λ same.
    let first = distinct i (get_or names i d) (slice_get-get_or names i d (omega (arith, before, within))) in
    let second = distinct j (get_or names j d) (slice_get-get_or names j d within) in
    let numbers : Some i ≡ Some j = sym first ∙ ap (number_of names) same ∙ second in
    let place : i ≡ j = cc in
    absurd (omega (arith, before))
