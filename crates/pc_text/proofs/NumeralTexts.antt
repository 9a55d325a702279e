-- Numbers and their numerals.
use Rattle.std.proofs.Common.{◌≡◌, ◌≤◌, ◌<◌, ℕ, zero, suc, ◌+◌, ◌*◌, ◌-◌, ◌/◌, ◌%◌, ◌^◌, Bool, true, false, cond, nat_le, ◌&&◌, List, [], ◌∷◌, ◌++◌, get_or, map, refl, sym, ap, ◌∙◌, subst, inl, inr, arith, append_assoc, append-nil, ℤ, pos, negsuc, neg_ℤ}
use Rattle.std.specs.Fmt.{decimal, signed_decimal}
use Rattle.std.specs.Int.Digits.{digits_of, number_from_digits_after, AllBelowBase}
use Rattle.std.proofs.lemmas.Int.Digits.{digits_of_step, all_below_base_digits_of, first_digits_of, number_digits_of}
use Rattle.std.proofs.lemmas.Fmt.{decimal_by_steps_wide}
use Rattle.std.proofs.lemmas.Bool.{leb-true}
use Rattle.std.proofs.lemmas.List.{map-append}
use Rattle.std.specs.Prelude.{unsigned_abs}
use Rattle.pc_text.proofs.DigitLemmas.{grows}
use Rattle.std.proofs.lemmas.Bool.Decides.{nat_tests}
use Rattle.pc_text.specs.declared.lexeme.Class.{Class}
use Rattle.pc_text.specs.declared.lexeme.Class.TheVariants.{Blank, Slash, Letter, Digit, Alone, MayEqual, Bang, Ampersand, Other}
use Rattle.pc_text.specs.Bytes.{Bytes}
use Rattle.pc_text.specs.Digits.{digits_from, natural_of}
use Rattle.pc_text.specs.Lexemes.{class, is_digit, in_number, EachPasses}
use Rattle.pc_text.specs.Numerals.{IsPositive, IsNumeral, integer_of, natural_text, numeral}
use Rattle.pc_text.proofs.NumeralLengths.{above}

-- ---- digits

-- a byte from 48 to 57 is a digit
pub digit_class : (b : ℕ) → 48 ≤ b → b ≤ 57 → class b ≡ Digit
unfolding class
digit_class b low high = grind (arith, nat_tests)

in_digits : (b : ℕ) → 48 ≤ b → b ≤ 57 → in_number b ≡ true
in_digits b low high = rw (digit_class b low high) refl

no_sign : (k m x y : Bool) → is_digit (cond k Alone (cond m MayEqual (cond x Bang (cond y Ampersand Other)))) ≡ false
no_sign true m x y = refl
no_sign false true x y = refl
no_sign false false true y = refl
no_sign false false false true = refl
no_sign false false false false = refl

digit_by : (p q r low high : Bool) (c : Class) → is_digit c ≡ false → is_digit (cond p Blank (cond q Slash (cond r Letter (cond (low && high) Digit c)))) ≡ true → (low ≡ true) × (high ≡ true)
digit_by true q r low high c n e = absurd (cc)
digit_by false true r low high c n e = absurd (cc)
digit_by false false true low high c n e = absurd (cc)
digit_by false false false true true c n e = (refl, refl)
digit_by false false false true false c n e = absurd (cc)
digit_by false false false false high c n e = absurd (cc)

-- the bytes of numbers
digit_range : (b : ℕ) → in_number b ≡ true → (48 ≤ b) × (b ≤ 57)
unfolding class
digit_range b e =
    let tests = digit_by _ _ _ (nat_le 48 b) (nat_le b 57) _ (no_sign _ _ _ _) e in
    (leb-true 48 b tests.0, leb-true b 57 tests.1)

-- ---- from a number to its text

abbrev text : ℕ → Bytes
text n = map (λ d. 48 + d) (digits_of 10 n)

natural_text_is : (n : ℕ) → 0 < n → natural_text n ≡ text n
natural_text_is n h = rw (above n 0 h) refl

digits_value : (n : ℕ) (ds : List ℕ) → digits_from n (map (λ d. 48 + d) ds) ≡ number_from_digits_after 10 n ds
digits_value n [] = refl
digits_value n (d ∷ ds) = let next : 10 * n + (48 + d - 48) ≡ n * 10 + d = omega arith in ap (λ m. digits_from m (map (λ d. 48 + d) ds)) next ∙ digits_value (n * 10 + d) ds

text_value : (n : ℕ) → natural_of (text n) ≡ n
text_value n = digits_value 0 (digits_of 10 n) ∙ number_digits_of 10 n (omega arith)

each_digit : (ds : List ℕ) → AllBelowBase 10 ds → EachPasses in_number (map (λ d. 48 + d) ds)
each_digit [] h = tt
each_digit (d ∷ ds) h = (in_digits (48 + d) (omega arith) (omega (arith, h.0)), each_digit ds h.1)

positive_from : (ds : List ℕ) → AllBelowBase 10 ds → 0 < get_or ds 0 0 → IsPositive (map (λ d. 48 + d) ds)
positive_from [] h first = absurd (omega arith)
positive_from (d ∷ ds) h first = let below : d < 10 = h.0 in (omega arith, omega arith, each_digit ds h.1)

text_positive : (n : ℕ) → 0 < n → IsPositive (text n)
text_positive n h = positive_from (digits_of 10 n) (all_below_base_digits_of 10 n (omega arith)) (first_digits_of 10 n (omega arith) h)

-- ---- from a text to its number

text_step : (n : ℕ) → 0 < n → text n ≡ text (n / 10) ++ (48 + n % 10) ∷ []
text_step n h = ap (map (λ d. 48 + d)) (digits_of_step 10 n (omega arith) h) ∙ map-append (λ d. 48 + d) (digits_of 10 (n / 10)) (n % 10 ∷ [])

text_more : (n b : ℕ) → 0 < n → 48 ≤ b → b ≤ 57 → text (10 * n + (b - 48)) ≡ text n ++ b ∷ []
text_more n b h low high =
    let front : (10 * n + (b - 48)) / 10 ≡ n = omega arith in
    let last : 48 + (10 * n + (b - 48)) % 10 ≡ b = omega arith in
    text_step (10 * n + (b - 48)) (omega arith) ∙ ap (λ m. text m ++ (48 + (10 * n + (b - 48)) % 10) ∷ []) front ∙ ap (λ m. text n ++ m ∷ []) last

text_on : (w : Bytes) (n : ℕ) → 0 < n → EachPasses in_number w → text (digits_from n w) ≡ text n ++ w
text_on [] n h e = sym (append-nil (text n))
text_on (b ∷ w) n h e =
    let range = digit_range b e.0 in
    text_on w (10 * n + (b - 48)) (omega arith) e.1 ∙ ap (λ z. z ++ w) (text_more n b h range.0 range.1) ∙ append_assoc (text n) (b ∷ []) w

text_one : (b : ℕ) → 49 ≤ b → b ≤ 57 → text (10 * 0 + (b - 48)) ≡ b ∷ []
text_one b low high =
    let front : (10 * 0 + (b - 48)) / 10 ≡ 0 = omega arith in
    let last : 48 + (10 * 0 + (b - 48)) % 10 ≡ b = omega arith in
    text_step (10 * 0 + (b - 48)) (omega arith) ∙ ap (λ m. text m ++ (48 + (10 * 0 + (b - 48)) % 10) ∷ []) front ∙ ap (λ m. m ∷ []) last

natural_some : (w : Bytes) → IsPositive w → 0 < natural_of w
natural_some [] h = absurd h
natural_some (b ∷ w) (low, high, h) = let more = grows (10 * 0 + (b - 48)) w in omega arith

text_natural : (w : Bytes) → IsPositive w → natural_text (natural_of w) ≡ w
text_natural [] h = absurd h
text_natural (b ∷ w) (low, high, h) =
    natural_text_is (natural_of (b ∷ w)) (natural_some (b ∷ w) (low, high, h))
    ∙ text_on w (10 * 0 + (b - 48)) (omega arith) h
    ∙ ap (λ z. z ++ w) (text_one b low high)

-- ---- numerals

positive_numeral : (n : ℕ) → 0 < n → IsPositive (natural_text n)
positive_numeral n h = subst IsPositive (sym (natural_text_is n h)) (text_positive n h)

natural_value : (n : ℕ) → 0 < n → natural_of (natural_text n) ≡ n
natural_value n h = ap natural_of (natural_text_is n h) ∙ text_value n

integer_positive : (w : Bytes) → IsPositive w → integer_of w ≡ pos (natural_of w)
integer_positive [] h = absurd h
integer_positive (b ∷ w) (low, high, h) = rw (above b 45 (omega arith)) refl

-- the numeral of a number is one
pub numeral_is : (n : ℤ) → IsNumeral (numeral n)
unfolding numeral
numeral_is (pos zero) = inl refl
numeral_is (pos (suc n)) = inr (inl (positive_numeral (suc n) (omega arith)))
numeral_is (negsuc n) = inr (inr (natural_text (suc n), refl, positive_numeral (suc n) (omega arith)))

-- a numeral stands for its number
pub integer_numeral : (n : ℤ) → integer_of (numeral n) ≡ n
unfolding numeral
integer_numeral (pos zero) = refl
integer_numeral (pos (suc n)) = integer_positive (natural_text (suc n)) (positive_numeral (suc n) (omega arith)) ∙ ap pos (natural_value (suc n) (omega arith))
integer_numeral (negsuc n) = ap (λ m. neg_ℤ (pos m)) (natural_value (suc n) (omega arith))

numeral_pos : (n : ℕ) → 0 < n → numeral (pos n) ≡ natural_text n
unfolding numeral
numeral_pos n h = refl

numeral_neg : (n : ℕ) → 0 < n → numeral (neg_ℤ (pos n)) ≡ 45 ∷ natural_text n
unfolding numeral
numeral_neg zero h = absurd (omega arith)
numeral_neg (suc n) h = refl

numeral_zero : numeral (pos 0) ≡ 48 ∷ []
unfolding numeral
numeral_zero = refl

-- a canonical numeral is that of the number that it stands for
pub numeral_integer : (w : Bytes) → IsNumeral w → numeral (integer_of w) ≡ w
numeral_integer w (inl e) = ap (λ z. numeral (integer_of z)) e ∙ numeral_zero ∙ sym e
numeral_integer w (inr (inl p)) = ap numeral (integer_positive w p) ∙ numeral_pos (natural_of w) (natural_some w p) ∙ text_natural w p
numeral_integer w (inr (inr (v, e, p))) = ap (λ z. numeral (integer_of z)) e ∙ numeral_neg (natural_of v) (natural_some v p) ∙ ap (λ z. 45 ∷ z) (text_natural v p) ∙ sym e

-- ---- what is printed

decimal_is : (n : ℕ) → n < 10 ^ 64 → decimal n ≡ natural_text n
decimal_is = decimal_by_steps_wide (λ n ds. ds ≡ natural_text n) one more
  where
    one : (n : ℕ) → n < 10 → (48 + n) ∷ [] ≡ natural_text n
    one zero h = refl
    one (suc n) h =
        let front : suc n / 10 ≡ 0 = omega arith in
        let last : 48 + suc n % 10 ≡ 48 + suc n = omega arith in
        sym (natural_text_is (suc n) (omega arith) ∙ text_step (suc n) (omega arith) ∙ ap (λ m. text m ++ (48 + suc n % 10) ∷ []) front ∙ ap (λ m. m ∷ []) last)

    more : (n : ℕ) (ds : List ℕ) → 10 ≤ n → ds ≡ natural_text (n / 10) → ds ++ (48 + n % 10) ∷ [] ≡ natural_text n
    more n ds h e =
        let some : 0 < n / 10 = omega arith in
        ap (λ z. z ++ (48 + n % 10) ∷ []) (e ∙ natural_text_is (n / 10) some) ∙ sym (natural_text_is n (omega arith) ∙ text_step n (omega arith))

pub signed_is : (n : ℤ) → unsigned_abs n < 10 ^ 64 → signed_decimal n ≡ numeral n
unfolding numeral
signed_is (pos n) h = decimal_is n h
signed_is (negsuc n) h = ap (λ z. 45 ∷ z) (decimal_is (suc n) h)
