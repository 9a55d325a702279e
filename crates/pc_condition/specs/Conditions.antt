-- The printed texts of a row, of rows together and of a condition, over the names of the variables.
use Rattle.std.specs.Prelude.{ℕ, ℤ, pos, negsuc, unsigned_abs, Bool, true, false, not, ◌&&◌, ◌==◌, if◌then◌else◌, List, [], ◌∷◌, ◌++◌, codes}
use Rattle.std.specs.List.{flat_map, join_by}
use Rattle.pc_rows.specs.Linear.{Linear, is_zero}
use Rattle.pc_text.specs.Bytes.{Bytes}
use Rattle.pc_text.specs.Numerals.{numeral}

-- a part of a sum, with its sign apart
pub record Part : Type 0 where
  pub is_negative : Bool
  pub size : Bytes

abbrev pub is_negative : ℤ → Bool
is_negative (pos n) = false
is_negative (negsuc n) = true

-- so many times the variable: the name alone, or the number, `*` and the name
abbrev pub times_name : ℕ → Bytes → Bytes
times_name n name = if n == 1 then name else (numeral (pos n) ++ codes "*" ++ name)

abbrev pub term : Bytes → ℤ → Part
term name c = record { is_negative = is_negative c; size = times_name (unsigned_abs c) name }

abbrev pub constant_part : ℤ → Part
constant_part c = record { is_negative = is_negative c; size = numeral (pos (unsigned_abs c)) }

-- the terms of the coefficients that are not 0, in the order of the variables
abbrev pub terms : List Bytes → List ℤ → List Part
terms [] cs = []
terms (name ∷ names) [] = []
terms (name ∷ names) (c ∷ cs) = if is_zero c then terms names cs else (term name c ∷ terms names cs)

-- the sign of a part, by whether it is the first one and whether it is negative
abbrev pub sign : Bool → Bool → Bytes
sign true true = codes "-"
sign true false = []
sign false true = codes " - "
sign false false = codes " + "

abbrev pub part_text : Bool → Part → Bytes
part_text is_first p = sign is_first p.is_negative ++ p.size

-- the parts in order
abbrev pub sum_text : List Part → Bytes
sum_text [] = []
sum_text (p ∷ ps) = part_text true p ++ flat_map (part_text false) ps

abbrev pub is_empty : List Part → Bool
is_empty [] = true
is_empty (p ∷ ps) = false

-- the constant behind the terms, where it is not 0 or there are none
abbrev pub constant_text : Bool → ℤ → Bytes
constant_text is_first c = if is_zero c && not is_first then [] else (part_text is_first (constant_part c))

-- a row: that the sum of its terms and its constant is not negative
abbrev pub row_text : List Bytes → Linear → Bytes
row_text names r =
    let ts = terms names r.coefficients in
    sum_text ts ++ constant_text (is_empty ts) r.constant ++ codes " >= 0"

-- rows that are to hold together
abbrev pub rows_text : List Bytes → List Linear → Bytes
rows_text names [] = codes "true"
rows_text names (r ∷ rs) = join_by (row_text names) (codes " && ") (r ∷ rs)

-- a word, what is said, and a line feed
abbrev pub line_text : Bytes → Bytes → Bytes
line_text word what = word ++ what ++ codes "\n"

-- a line for each list of rows, behind the word
abbrev pub lines_text : Bytes → List Bytes → List (List Linear) → Bytes
lines_text word names = flat_map (λ rows. line_text word (rows_text names rows))

abbrev pub suffices : Bytes
suffices = codes "suffices: "

-- a condition holds where the rows of one alternative do: a line for each, and one line where there is none
abbrev pub condition_text : List Bytes → List (List Linear) → Bytes
condition_text names [] = line_text suffices (codes "false")
condition_text names (rows ∷ more) = lines_text suffices names (rows ∷ more)
