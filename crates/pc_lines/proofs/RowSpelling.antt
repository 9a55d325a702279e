-- A line of numerals spells a row.
use Rattle.std.proofs.Common.{◌≡◌, ◌∙◌, refl, ap, sym, ℕ, zero, suc, ◌-◌, ◌≤◌, ◌^◌, true, List, [], ◌∷◌, ◌++◌, length, map, take, replicate, get_or, length-append, length-take-le, lit<, arith, ℤ, pos}
use Rattle.std.specs.Prelude.{unsigned_abs}
use Rattle.std.specs.List.{list_all}
use Rattle.std.proofs.lemmas.Bool.{and_parts}
use Rattle.std.proofs.lemmas.List.{length-map, length-replicate}
use borrow.Author.Tests.{ltb-true}
use Rattle.pc_rows.specs.declared.row.TheConstants.{VARIABLES}
use Rattle.pc_rows.specs.Linear.{Linear, AllInRange, in_range, IsOver, IsRow}
use Rattle.pc_text.specs.Numerals.{numeral, integer_of}
use Rattle.pc_text.proofs.NumeralTexts.{integer_numeral}
use Rattle.pc_rows.proofs.Algebra.{get_or-zeros}
use Rattle.pc_rows.proofs.Ranges.{in_all, all_in}
use Rattle.pc_text.specs.Words.{Words, is_numeral}
use Rattle.pc_lines.specs.Forms.{are_numerals}
use Rattle.pc_lines.specs.Kinds.{row}
use Rattle.pc_lines.specs.Readers.{row_value}
use Rattle.pc_lines.specs.Texts.{row_line}
use Rattle.pc_text.proofs.NumeralWords.{empty_is, numeral_of, integer_is_numeral}
use Rattle.pc_text.proofs.PlainWords.{numerals_plain}
use Rattle.pc_lines.proofs.Spelled.{IsSpelled}
use Rattle.pc_lines.proofs.LineLaws.{linear}

-- ---- numerals and their numbers

pub integers_of_numerals : (zs : List ℤ) → map integer_of (map numeral zs) ≡ zs
integers_of_numerals [] = refl
integers_of_numerals (z ∷ zs) = let first = integer_numeral z in let more = integers_of_numerals zs in cc

pub numerals_of_integers : (n : ℕ) (ws : Words) → are_numerals n ws ≡ true → (map numeral (map integer_of ws) ≡ ws) × (length ws ≡ n)
numerals_of_integers zero ws h = let none = empty_is ws h in (rw none refl, ap length none)
numerals_of_integers (suc n) [] h = absurd (cc)
numerals_of_integers (suc n) (w ∷ ws) h =
    let both = and_parts (is_numeral w) (are_numerals n ws) h in
    let first = numeral_of w both.0 in
    let more = numerals_of_integers n ws both.1 in
    let rest = more.0 in
    (cc, omega (arith, more.1))

pub are_numerals_of : (zs : List ℤ) → are_numerals (length zs) (map numeral zs) ≡ true
are_numerals_of [] = refl
are_numerals_of (z ∷ zs) = rw (integer_is_numeral z) (are_numerals_of zs)

pub range_of_front : (n : ℕ) (zs : List ℤ) → AllInRange zs → AllInRange (take n zs)
range_of_front zero zs h = tt
range_of_front (suc n) [] h = tt
range_of_front (suc n) (z ∷ zs) h = (h.0, range_of_front n zs h.1)

range_of_zeros : (n : ℕ) → AllInRange (replicate n (pos 0))
range_of_zeros zero = tt
range_of_zeros (suc n) = (lit< tt, range_of_zeros n)

range_of_both : (zs ys : List ℤ) → AllInRange zs → AllInRange ys → AllInRange (zs ++ ys)
range_of_both [] ys h g = g
range_of_both (z ∷ zs) ys h g = (h.0, range_of_both zs ys h.1 g)

-- ---- coefficients of the first variables, and zeros

zero_behind : (zs : List ℤ) (n k : ℕ) → length zs ≤ k → get_or (zs ++ replicate n (pos 0)) k (pos 0) ≡ pos 0
zero_behind [] n k h = get_or-zeros n k
zero_behind (z ∷ zs) n zero h = absurd (omega arith)
zero_behind (z ∷ zs) n (suc k) h = zero_behind zs n k (omega arith)

all_zeros : (zs : List ℤ) → ((k : ℕ) → get_or zs k (pos 0) ≡ pos 0) → replicate (length zs) (pos 0) ≡ zs
all_zeros [] h = refl
all_zeros (z ∷ zs) h = let first : z ≡ pos 0 = h 0 in let more = all_zeros zs (λ k. h (suc k)) in cc

front_and_zeros : (v : ℕ) (zs : List ℤ) → v ≤ length zs → ((k : ℕ) → v ≤ k → get_or zs k (pos 0) ≡ pos 0) → take v zs ++ replicate (length zs - v) (pos 0) ≡ zs
front_and_zeros zero zs l h = let all : length zs - 0 ≡ length zs = omega arith in ap (λ n. replicate n (pos 0)) all ∙ all_zeros zs (λ k. h k (omega arith))
front_and_zeros (suc v) [] l h = absurd (omega arith)
front_and_zeros (suc v) (z ∷ zs) l h =
    let left : length (z ∷ zs) - suc v ≡ length zs - v = omega arith in
    ap (λ n. z ∷ (take v zs ++ replicate n (pos 0))) left ∙ ap (λ ys. z ∷ ys) (front_and_zeros v zs (omega arith) (λ k g. h (suc k) (omega arith)))

take_front : (zs ys : List ℤ) → take (length zs) (zs ++ ys) ≡ zs
take_front [] ys = refl
take_front (z ∷ zs) ys = ap (λ xs. z ∷ xs) (take_front zs ys)

-- ---- rows

-- a row that the code may hold, over the first variables
abbrev pub IsRowOver : ℕ → Linear → Type 0
IsRowOver v r = IsRow r × IsOver v r

module _ (v : ℕ) (most : v ≤ VARIABLES) where
  value_good : (ws : Words) → are_numerals (suc v) ws ≡ true → list_all in_range (map integer_of ws) ≡ true → IsRowOver v (row_value v ws)
  value_good [] h g = absurd (cc)
  value_good (c ∷ ws) h g =
      let zs = map integer_of ws in
      let both = and_parts (is_numeral c) (are_numerals v ws) h in
      let range = and_parts (in_range (integer_of c)) (list_all in_range zs) g in
      let long : length zs ≡ v = length-map ws integer_of ∙ (numerals_of_integers v ws both.1).1 in
      let sum = length-append zs (replicate (VARIABLES - v) (pos 0)) in
      let zeros = length-replicate {A = ℤ} (VARIABLES - v) (pos 0) in (
        record {
          wide = omega arith;
          in_range = (ltb-true (unsigned_abs (integer_of c)) (2 ^ 127) range.0, range_of_both zs (replicate (VARIABLES - v) (pos 0)) (in_all zs range.1) (range_of_zeros (VARIABLES - v)));
        },
        λ k past. zero_behind zs (VARIABLES - v) k (omega arith),
      )

  value_line : (ws : Words) → are_numerals (suc v) ws ≡ true → row_line v (row_value v ws) ≡ ws
  value_line [] h = absurd (cc)
  value_line (c ∷ ws) h =
      let zs = map integer_of ws in
      let both = and_parts (is_numeral c) (are_numerals v ws) h in
      let told = numerals_of_integers v ws both.1 in
      let long : v ≡ length zs = sym (length-map ws integer_of ∙ told.1) in
      let front : take v (zs ++ replicate (VARIABLES - v) (pos 0)) ≡ zs = ap (λ n. take n (zs ++ replicate (VARIABLES - v) (pos 0))) long ∙ take_front zs (replicate (VARIABLES - v) (pos 0)) in
      let first = numeral_of c both.0 in
      let rest : map numeral (take v (zs ++ replicate (VARIABLES - v) (pos 0))) ≡ ws = ap (map numeral) front ∙ told.0 in
      cc

  line_value : (r : Linear) → IsRowOver v r → row_value v (row_line v r) ≡ r
  line_value r h =
      let cs = r.coefficients in
      let wide = h.0.wide in
      let left : VARIABLES - v ≡ length cs - v = omega arith in
      ap (λ c. linear c (map integer_of (map numeral (take v cs)) ++ replicate (VARIABLES - v) (pos 0))) (integer_numeral r.constant)
      ∙ ap (λ zs. linear r.constant (zs ++ replicate (VARIABLES - v) (pos 0))) (integers_of_numerals (take v cs))
      ∙ ap (λ n. linear r.constant (take v cs ++ replicate n (pos 0))) left
      ∙ ap (linear r.constant) (front_and_zeros v cs (omega arith) h.1)

  line_form : (r : Linear) → IsRowOver v r → are_numerals (suc v) (row_line v r) ≡ true
  line_form r h =
      let wide = h.0.wide in
      let long : length (take v r.coefficients) ≡ v = length-take-le v r.coefficients (omega arith) in
      ap (λ n. are_numerals (suc n) (row_line v r)) (sym long) ∙ are_numerals_of (r.constant ∷ take v r.coefficients)

  line_rules : (r : Linear) → IsRowOver v r → list_all in_range (map integer_of (row_line v r)) ≡ true
  line_rules r h =
      let zs = r.constant ∷ take v r.coefficients in
      ap (list_all in_range) (integers_of_numerals zs) ∙ all_in zs (h.0.in_range.0, range_of_front v r.coefficients h.0.in_range.1)

  pub row_spelled : IsSpelled (row v) (row_value v) (row_line v) (IsRowOver v)
  row_spelled = record {
    back = λ ws h g. (value_good ws h g, value_line ws h);
    plain = λ r h. (numerals_plain (r.constant ∷ take v r.coefficients), refl);
    form = line_form;
    rules = line_rules;
    forth = line_value;
  }
