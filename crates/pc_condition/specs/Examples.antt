-- Texts worked by hand.
use Rattle.std.specs.Prelude.{◌≡◌, List, [], ◌∷◌, codes, ℤ, pos, negsuc, refl}
use Rattle.pc_text.specs.Numerals.{numeral}
use Rattle.pc_rows.specs.Linear.{Linear}
use Rattle.pc_text.specs.Bytes.{Bytes}
use Rattle.pc_condition.specs.Conditions.{row_text, lines_text, condition_text}

abbrev row : ℤ → List ℤ → Linear
row constant coefficients = record { constant = constant; coefficients = coefficients }

abbrev x : Bytes
x = codes "x"

abbrev y : Bytes
y = codes "y"

abbrev n_cap_i : List Bytes
n_cap_i = codes "n" ∷ codes "cap" ∷ codes "i" ∷ []

constant_behind_terms : row_text (codes "j" ∷ codes "i" ∷ []) (row (pos 5) (negsuc 0 ∷ pos 0 ∷ [])) ≡ codes "-j + 5 >= 0"
unfolding numeral
constant_behind_terms = refl

constant_below_zero : row_text (x ∷ []) (row (negsuc 0) (pos 3 ∷ [])) ≡ codes "3*x - 1 >= 0"
unfolding numeral
constant_below_zero = refl

constant_left_out : row_text (x ∷ y ∷ []) (row (pos 0) (pos 1 ∷ negsuc 1 ∷ [])) ≡ codes "x - 2*y >= 0"
unfolding numeral
constant_left_out = refl

constant_alone : row_text (x ∷ []) (row (negsuc 0) (pos 0 ∷ [])) ≡ codes "-1 >= 0"
unfolding numeral
constant_alone = refl

zero_alone : row_text (x ∷ []) (row (pos 0) (pos 0 ∷ [])) ≡ codes "0 >= 0"
unfolding numeral
zero_alone = refl

number_below_minus_one : row_text (x ∷ y ∷ []) (row (pos 120) (negsuc 11 ∷ negsuc 0 ∷ [])) ≡ codes "-12*x - y + 120 >= 0"
unfolding numeral
number_below_minus_one = refl

past_the_names : row_text (x ∷ []) (row (negsuc 9) (pos 1 ∷ pos 0 ∷ pos 0 ∷ [])) ≡ codes "x - 10 >= 0"
unfolding numeral
past_the_names = refl

no_alternative : condition_text (x ∷ []) [] ≡ codes "suffices: false\n"
unfolding numeral
no_alternative = refl

no_row : condition_text (x ∷ []) ([] ∷ []) ≡ codes "suffices: true\n"
unfolding numeral
no_row = refl

two_rows :
    condition_text (x ∷ []) ((row (negsuc 1) (pos 1 ∷ []) ∷ row (pos 7) (negsuc 0 ∷ []) ∷ []) ∷ []) ≡
    codes "suffices: x - 2 >= 0 && -x + 7 >= 0\n"
unfolding numeral
two_rows = refl

two_alternatives :
    condition_text n_cap_i
    ((row (pos 0) (negsuc 0 ∷ pos 1 ∷ pos 0 ∷ []) ∷ []) ∷ (row (pos 0) (negsuc 0 ∷ pos 0 ∷ pos 0 ∷ []) ∷ []) ∷ []) ≡
    codes "suffices: -n + cap >= 0\nsuffices: -n >= 0\n"
unfolding numeral
two_alternatives = refl

another_word : lines_text (codes "unless: ") (x ∷ []) ([] ∷ (row (negsuc 0) (pos 1 ∷ []) ∷ []) ∷ []) ≡ codes "unless: true\nunless: x - 1 >= 0\n"
unfolding numeral
another_word = refl

line_feed : codes "\n" ≡ 10 ∷ []
line_feed = refl
