-- Words without spaces and line feeds, and the lines that they make.
use Rattle.std.proofs.Common.{◌≡◌, ◌∙◌, refl, ap, sym, subst, ℕ, zero, suc, ◌≤◌, eqb, false, not, [], ◌∷◌, ◌++◌, map, List, arith, ℤ, pos, negsuc}
use Rattle.std.specs.Prelude.{codes}
use Rattle.std.specs.List.{AllByRecursion, All, flat_map}
use Rattle.std.proofs.lemmas.Bool.{ne_eqb}
use Rattle.std.proofs.lemmas.List.{append-nil}
use Rattle.std.proofs.lemmas.List.Splits.{slice_split_at, slice_split_none}
use Rattle.pc_text.specs.Bytes.{Bytes}
use Rattle.pc_text.specs.Lexemes.{in_line, EachPasses}
use Rattle.pc_text.specs.Numerals.{numeral}
use Rattle.pc_text.specs.Words.{Words, is_space, words, is_empty}
use Rattle.pc_text.proofs.Decimals.{decimal_digits}
use Rattle.pc_text.proofs.Splits.{each_weaker, each-append}
use Rattle.pc_text.proofs.WordLists.{joined}

-- neither a space nor a line feed stands among the bytes
abbrev pub IsPlain : Bytes → Type 0
IsPlain w = AllByRecursion (λ b. 33 ≤ b) w

-- plain words, at least one
abbrev pub ArePlain : Words → Type 0
ArePlain ws = AllByRecursion IsPlain ws × (is_empty ws ≡ false)

-- ---- the words of a line

no_space_by : (b : ℕ) (w : Bytes) → 33 ≤ b → All (λ b. is_space b ≡ false) w → All (λ b. is_space b ≡ false) (b ∷ w)
no_space_by b w h more zero d l = ne_eqb b 32 (λ e. absurd (omega arith))
no_space_by b w h more (suc k) d l = more k d (omega arith)

no_space : (w : Bytes) → IsPlain w → All (λ b. is_space b ≡ false) w
no_space [] h = λ k d l. absurd (omega arith)
no_space (b ∷ w) h = no_space_by b w h.0 (no_space w h.1)

words_by : (w v : Bytes) (ws : Words) → IsPlain w → words (joined (v ∷ ws)) ≡ v ∷ ws → words (joined (w ∷ v ∷ ws)) ≡ w ∷ v ∷ ws
words_by w v ws h e = slice_split_at is_space w 32 (joined (v ∷ ws)) (no_space w h) refl ∙ ap (λ z. w ∷ z) e

-- the words of the line that plain words make
pub words_of_line : (ws : Words) → ArePlain ws → words (joined ws) ≡ ws
words_of_line [] h = let apart = h.1 in absurd (cc)
words_of_line (w ∷ []) h = ap words (append-nil w) ∙ slice_split_none is_space w (no_space w h.0.0)
words_of_line (w ∷ v ∷ ws) h = words_by w v ws h.0.0 (words_of_line (v ∷ ws) (h.0.1, refl))

-- ---- no line feed

high_in_line : (x : Bytes) → AllByRecursion (λ b. 32 ≤ b) x → EachPasses in_line x
high_in_line [] h = tt
high_in_line (b ∷ x) h = let other : eqb b 10 ≡ false = ne_eqb b 10 (λ e. absurd (omega (arith, h.0))) in (ap not other, high_in_line x h.1)

further_high : (ws : Words) → AllByRecursion IsPlain ws → AllByRecursion (λ b. 32 ≤ b) (flat_map (λ w. codes " " ++ w) ws)
further_high [] h = tt
further_high (w ∷ ws) h = (omega arith, each-append (λ b. 32 ≤ b) w (flat_map (λ w. codes " " ++ w) ws) (each_weaker (λ b. 33 ≤ b) (λ b. 32 ≤ b) (λ b g. omega (arith, g)) w h.0) (further_high ws h.1))

line_high : (ws : Words) → AllByRecursion IsPlain ws → AllByRecursion (λ b. 32 ≤ b) (joined ws)
line_high [] h = tt
line_high (w ∷ ws) h = each-append (λ b. 32 ≤ b) w (flat_map (λ w. codes " " ++ w) ws) (each_weaker (λ b. 33 ≤ b) (λ b. 32 ≤ b) (λ b g. omega (arith, g)) w h.0) (further_high ws h.1)

-- no line feed stands in the line that plain words make
pub plain_line : (ws : Words) → AllByRecursion IsPlain ws → EachPasses in_line (joined ws)
plain_line ws h = high_in_line (joined ws) (line_high ws h)

-- ---- numerals are plain

positive_plain : (n : ℕ) → IsPlain (numeral (pos n))
positive_plain n = each_weaker (λ b. (48 ≤ b) × (b ≤ 57)) (λ b. 33 ≤ b) (λ b h. omega (arith, h.0)) (numeral (pos n)) (decimal_digits n)

minus_plain : (w : Bytes) → IsPlain w → IsPlain (45 ∷ w)
minus_plain w h = (omega arith, h)

negative_is : (n : ℕ) → numeral (negsuc n) ≡ 45 ∷ numeral (pos (suc n))
unfolding numeral
negative_is n = refl

pub numeral_plain : (z : ℤ) → IsPlain (numeral z)
numeral_plain (pos n) = positive_plain n
numeral_plain (negsuc n) = subst IsPlain (sym (negative_is n)) (minus_plain (numeral (pos (suc n))) (positive_plain (suc n)))

pub numerals_plain : (zs : List ℤ) → AllByRecursion IsPlain (map numeral zs)
numerals_plain [] = tt
numerals_plain (z ∷ zs) = (numeral_plain z, numerals_plain zs)
