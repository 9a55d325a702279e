-- The coefficients that a list of terms stands for.
use Rattle.std.specs.Prelude.{◌≡◌, ◌≢◌, ◌==◌, ℕ, ◌+◌, ◌<◌, ◌≤◌, min, ℤ, pos, List, [], ◌∷◌, map, nat_lt, Result, Ok, Err, if◌then◌else◌}
use Rattle.std.specs.List.{range_with_len}
use Rattle.smallvec.specs.SmallVec.{SmallVec}
use Rattle.pc_rows.specs.declared.row.TheConstants.{VARIABLES}
use Rattle.pc_rows.specs.declared.terms.Term.{Term}
use Rattle.pc_rows.specs.Linear.{InRange, is_zero}

-- the coefficient at variable v, of the first term with this variable
abbrev pub lookup : List Term → ℕ → ℤ
lookup [] v = pos 0
lookup (t ∷ ts) v = if t.variable == v then t.coefficient else lookup ts v

-- the coefficients of all variables
unfoldable pub dense : List Term → List ℤ
dense ts = map (lookup ts) (range_with_len 0 VARIABLES)

-- the terms have rising variables from n on, and coefficients in range other than 0
abbrev pub Rises : ℕ → List Term → Type 0
Rises n [] = Unit {0}
Rises n (t ∷ ts) =
    (n ≤ t.variable) × (t.variable < VARIABLES) × InRange t.coefficient × (t.coefficient ≢ pos 0) × Rises (t.variable + 1) ts

-- what every list of terms of a row keeps: it has room for a term of each variable, so that it never asks for memory
pub record AreTerms (v : SmallVec Term) : Type 0 where
  pub rises : Rises 0 v.items
  pub room : v.capacity ≡ VARIABLES

-- what the fields of a row keep
pub record IsKept (constant : ℤ) (list : SmallVec Term) : Type 0 where
  pub in_range : InRange constant
  pub terms : AreTerms list

-- terms with these coefficients where P holds, and a fault exactly where it does not
abbrev pub TermsIff : {E : Type 0} → Result (SmallVec Term) E → Type 0 → List ℤ → Type 0
TermsIff (Ok ts) P coefficients = AreTerms ts × (dense ts.items ≡ coefficients) × P
TermsIff (Err e) P coefficients = ¬ P

-- the term, where its coefficient is not 0
abbrev pub term_of : ℕ → ℤ → List Term
term_of v c = if is_zero c then [] else (record { variable = v; coefficient = c } ∷ [])

-- ---- the fronts of two lists

-- the lesser of the first variables
abbrev pub least : List Term → List Term → ℕ
least [] [] = VARIABLES
least [] (y ∷ ys) = y.variable
least (x ∷ xs) [] = x.variable
least (x ∷ xs) (y ∷ ys) = min x.variable y.variable

-- the coefficient of the first term, where it has the variable v
abbrev pub front : List Term → ℕ → ℤ
front [] v = pos 0
front (t ∷ ts) v = if t.variable == v then t.coefficient else pos 0

-- the terms without the first, where it has the variable v
abbrev pub past : List Term → ℕ → List Term
past [] v = []
past (t ∷ ts) v = if t.variable == v then ts else (t ∷ ts)

-- the terms with a variable below v, up to the first other one, and those from there on
abbrev pub before : List Term → ℕ → List Term
before [] v = []
before (t ∷ ts) v = if nat_lt t.variable v then (t ∷ before ts v) else []

abbrev pub after : List Term → ℕ → List Term
after [] v = []
after (t ∷ ts) v = if nat_lt t.variable v then after ts v else (t ∷ ts)
