-- The tests for numerals say what is meant, and a word that is one is read whole.
use Rattle.std.proofs.Common.{◌≡◌, ◌∙◌, refl, ap, sym, subst, ℕ, ◌≤◌, eqb, leb, Bool, true, false, cond, List, [], ◌∷◌, ◌++◌, Some, None, length, length-append, arith, ℤ, pos, inl, inr}
use Rattle.std.specs.Prelude.{◌&&◌, unsigned_abs, neg_ℤ}
use Rattle.std.specs.List.{list_all}
use Rattle.std.proofs.lemmas.Bool.{le-leb, leb-true, eqb-true, and_parts}
use Rattle.std.proofs.lemmas.List.{append-nil}
use Rattle.std.proofs.lemmas.Bool.Decides.{nat_tests}
use Rattle.pc_text.specs.declared.token.TheConstants.{LARGEST}
use Rattle.pc_text.specs.Bytes.{Bytes}
use Rattle.pc_text.specs.Digits.{natural_of}
use Rattle.pc_text.specs.Lexemes.{in_number, EachPasses}
use Rattle.pc_text.specs.Numerals.{IsPositive, IsNumeral, integer_of, numeral, IsInRange, is_in_range, Reads, IsLongestNumeral}
use Rattle.pc_text.proofs.NumeralTexts.{numeral_is, integer_numeral, numeral_integer}
use Rattle.pc_text.specs.declared.numerals.Word.TheVariants as word
use Rattle.pc_text.specs.Words.{is_empty, is_positive, is_count, is_numeral, word_of}
use Rattle.pc_text.proofs.Decimals.{decimal_begins, IsDigit, same_pos}
use Rattle.pc_text.proofs.Splits.{Begins}

-- each byte passes a test where all do
pub each_passes : (p : ℕ → Bool) (w : Bytes) → list_all p w ≡ true → EachPasses p w
each_passes p [] h = tt
each_passes p (b ∷ w) h = let both = and_parts (p b) (list_all p w) h in (both.0, each_passes p w both.1)

pub all_pass : (p : ℕ → Bool) (w : Bytes) → EachPasses p w → list_all p w ≡ true
all_pass p [] h = refl
all_pass p (b ∷ w) h = rw h.0 (all_pass p w h.1)

positive_meant : (w : Bytes) → is_positive w ≡ true → IsPositive w
positive_meant [] h = absurd (cc)
positive_meant (b ∷ w) h =
    let both = and_parts (leb 49 b && leb b 57) (list_all in_number w) h in
    let bounds = and_parts (leb 49 b) (leb b 57) both.0 in
    (leb-true 49 b bounds.0, leb-true b 57 bounds.1, each_passes in_number w both.1)

positive_test : (w : Bytes) → IsPositive w → is_positive w ≡ true
positive_test [] h = absurd h
positive_test (b ∷ w) h = rw (le-leb 49 b h.0, le-leb b 57 h.1) (all_pass in_number w h.2)

pub empty_is : {A : Type 0} (w : List A) → is_empty w ≡ true → w ≡ []
empty_is [] h = refl
empty_is (b ∷ w) h = absurd (cc)

count_by : (b : ℕ) (w : Bytes) (t : Bool) → eqb b 48 ≡ t → cond t (is_empty w) (is_positive (b ∷ w)) ≡ true → IsNumeral (b ∷ w)
count_by b w true e h = let zero_alone : b ∷ w ≡ 48 ∷ [] = let first = eqb-true b 48 e in let rest = empty_is w h in cc in inl zero_alone
count_by b w false e h = inr (inl (positive_meant (b ∷ w) h))

numeral_by : (b : ℕ) (w : Bytes) (t : Bool) → eqb b 45 ≡ t → cond t (is_positive w) (is_count (b ∷ w)) ≡ true → IsNumeral (b ∷ w)
numeral_by b w true e h = inr (inr (w, ap (λ c. c ∷ w) (eqb-true b 45 e), positive_meant w h))
numeral_by b w false e h = count_by b w (eqb b 48) refl h

pub numeral_meant : (w : Bytes) → is_numeral w ≡ true → IsNumeral w
numeral_meant [] h = absurd (cc)
numeral_meant (b ∷ w) h = numeral_by b w (eqb b 45) refl h

positive_numeral_by : (b : ℕ) (w : Bytes) (t u : Bool) → eqb b 45 ≡ t → eqb b 48 ≡ u → 49 ≤ b → is_positive (b ∷ w) ≡ true → cond t (is_positive w) (cond u (is_empty w) (is_positive (b ∷ w))) ≡ true
positive_numeral_by b w true u e f low h = absurd (omega (arith, eqb-true b 45 e))
positive_numeral_by b w false true e f low h = absurd (omega (arith, eqb-true b 48 f))
positive_numeral_by b w false false e f low h = h

positive_numeral : (w : Bytes) → IsPositive w → is_numeral w ≡ true
positive_numeral [] h = absurd h
positive_numeral (b ∷ w) h = positive_numeral_by b w (eqb b 45) (eqb b 48) refl refl h.0 (positive_test (b ∷ w) h)

pub numeral_test : (w : Bytes) → IsNumeral w → is_numeral w ≡ true
numeral_test w (inl e) = rw e refl
numeral_test w (inr (inl h)) = positive_numeral w h
numeral_test w (inr (inr (v, e, h))) = rw e (positive_test v h)

-- ---- counts

unsigned_by : (b : ℕ) (w : Bytes) (t : Bool) → 48 ≤ b → eqb b 45 ≡ t → (cond t (is_positive w) (is_count (b ∷ w)) ≡ is_count (b ∷ w)) × (cond t (neg_ℤ (pos (natural_of w))) (pos (natural_of (b ∷ w))) ≡ pos (natural_of (b ∷ w)))
unsigned_by b w true low e = absurd (omega (arith, eqb-true b 45 e))
unsigned_by b w false low e = (refl, refl)

-- a text that begins with a digit has no sign
unsigned : (w : Bytes) → Begins IsDigit w → (is_numeral w ≡ is_count w) × (integer_of w ≡ pos (natural_of w))
unsigned [] h = absurd h
unsigned (b ∷ w) h = unsigned_by b w (eqb b 45) h.0 refl

positive_begins : (w : Bytes) → IsPositive w → Begins IsDigit w
positive_begins [] h = absurd h
positive_begins (b ∷ w) h = (omega (arith, h.0), h.1)

count_begins_by : (b : ℕ) (w : Bytes) (t : Bool) → eqb b 48 ≡ t → cond t (is_empty w) (is_positive (b ∷ w)) ≡ true → IsDigit b
count_begins_by b w true e h = let same = eqb-true b 48 e in (omega (arith, same), omega (arith, same))
count_begins_by b w false e h = positive_begins (b ∷ w) (positive_meant (b ∷ w) h)

count_begins : (w : Bytes) → is_count w ≡ true → Begins IsDigit w
count_begins [] h = absurd (cc)
count_begins (b ∷ w) h = count_begins_by b w (eqb b 48) refl h

-- a count is a numeral, and stands for its natural number
pub count_numeral : (w : Bytes) → is_count w ≡ true → is_numeral w ≡ true
count_numeral w h = (unsigned w (count_begins w h)).0 ∙ h

pub count_integer : (w : Bytes) → is_count w ≡ true → integer_of w ≡ pos (natural_of w)
count_integer w h = (unsigned w (count_begins w h)).1

-- the numeral of a natural number is a count, and stands for it
pub natural_count : (n : ℕ) → is_count (numeral (pos n)) ≡ true
natural_count n = sym (unsigned (numeral (pos n)) (decimal_begins n)).0 ∙ numeral_test (numeral (pos n)) (numeral_is (pos n))

pub natural_integer : (n : ℕ) → natural_of (numeral (pos n)) ≡ n
natural_integer n = same_pos (natural_of (numeral (pos n))) n (sym (unsigned (numeral (pos n)) (decimal_begins n)).1 ∙ integer_numeral (pos n))

-- a count is the numeral of its number
pub count_is : (w : Bytes) → is_count w ≡ true → numeral (pos (natural_of w)) ≡ w
count_is w h = ap numeral (sym (count_integer w h)) ∙ numeral_integer w (numeral_meant w (count_numeral w h))

-- a numeral is that of its number
pub numeral_of : (w : Bytes) → is_numeral w ≡ true → numeral (integer_of w) ≡ w
numeral_of w h = numeral_integer w (numeral_meant w h)

-- the numeral of a number is one
pub integer_is_numeral : (z : ℤ) → is_numeral (numeral z) ≡ true
integer_is_numeral z = numeral_test (numeral z) (numeral_is z)

-- ---- what is read of a word

same_word_by : (z : ℤ) (t : Bool) → is_in_range z ≡ t → IsInRange z → word.Number z ≡ cond t (word.Number z) word.Past
same_word_by z true e h = refl
same_word_by z false e h = grind (arith, nat_tests)

front_is_whole : (w u : Bytes) (rest : Bytes) → w ≡ u ++ rest → length u ≡ length w → u ≡ w
front_is_whole w u [] e l = sym (append-nil u) ∙ sym e
front_is_whole w u (b ∷ rest) e l =
    let long = ap length e in
    let sum = length-append u (b ∷ rest) in
    absurd (omega arith)

-- a word that is read whole is the numeral of its number
pub word_number : (w : Bytes) (z : ℤ) (end : ℕ) → Reads w 0 (Some (z, end)) → end ≡ length w → word.Number z ≡ word_of w
word_number w z end h e =
    let found = h.1 in
    let long : length h.0 ≡ length w = omega (arith, h.4, e) in
    let whole : h.0 ≡ w = front_is_whole w h.0 found.rest found.split long in
    let is : is_numeral w ≡ true = numeral_test w (subst IsNumeral whole found.canonical) in
    let value : integer_of w ≡ z = ap integer_of (sym whole ∙ h.2) ∙ integer_numeral z in
    let small : IsInRange z = h.3 in
    rw (is, value) (same_word_by z (is_in_range z) refl small)

front_within : (w u rest : Bytes) → w ≡ u ++ rest → length u ≤ length w
front_within w u rest e = let long = ap length e in let sum = length-append u rest in omega arith

other_by : (w : Bytes) (z : ℤ) (end : ℕ) (t : Bool) → is_numeral w ≡ t → Reads w 0 (Some (z, end)) → (end ≡ length w → ⊥) →
    word.Other ≡ cond t (cond (is_in_range (integer_of w)) (word.Number (integer_of w)) word.Past) word.Other
other_by w z end false is h apart = refl
other_by w z end true is h apart =
    let most : length w ≤ length h.0 = h.1.longest w [] (append-nil w) (numeral_meant w is) in
    let least : length h.0 ≤ length w = front_within w h.0 h.1.rest h.1.split in
    absurd (apart (omega (arith, h.4)))

-- a word that goes on behind its longest numeral is none
pub word_other : (w : Bytes) (z : ℤ) (end : ℕ) → Reads w 0 (Some (z, end)) → (end ≡ length w → ⊥) → word.Other ≡ word_of w
word_other w z end h apart = other_by w z end (is_numeral w) refl h apart

past_by : (z : ℤ) (t : Bool) → is_in_range z ≡ t → (IsInRange z → ⊥) → word.Past ≡ cond t (word.Number z) word.Past
past_by z true e h = absurd (h (leb-true (unsigned_abs z) LARGEST e))
past_by z false e h = refl

-- a numeral that is not read is not in range
pub word_past : (w : Bytes) → is_numeral w ≡ true → Reads w 0 None → word.Past ≡ word_of w
word_past w is h =
    let whole : IsLongestNumeral w w = record {
      rest = [];
      split = sym (append-nil w);
      canonical = numeral_meant w is;
      longest = λ v s q g. front_within w v s (sym q);
    } in
    rw is (past_by (integer_of w) (is_in_range (integer_of w)) refl (h w whole))
