-- The definitions at worked systems: x is variable 0 and y variable 1, and the last row is the negated goal.
use Rattle.std.proofs.Common.{◌≡◌, ℤ, pos, negsuc, List, [], ◌∷◌, Option, Some, None, refl, length}
use Rattle.pc_rows.specs.Linear.{Linear}
use Rattle.pc_rows.specs.Evidence.{Point}
use Rattle.pc_elim.specs.Elimination.{level, started}
use Rattle.pc_elim.specs.Settling.{origin, contradiction_of, taken_back}

abbrev row : ℤ → ℤ → ℤ → Linear
row c x y = record { constant = c; coefficients = x ∷ y ∷ [] }

abbrev contradiction : List Linear → Option (List ℤ)
contradiction rows = contradiction_of (level 2 (started (length rows) rows))

abbrev found : List Linear → Point
found rows = taken_back 2 (started (length rows) rows) (origin 2)

abbrev at : ℤ → ℤ → ℤ → Point
at x y d = record { numerators = x ∷ y ∷ []; denominator = d }

-- x >= 3 shows x >= 1
greater_shows_less : contradiction (row (negsuc 2) (pos 1) (pos 0) ∷ row (pos 0) (negsuc 0) (pos 0) ∷ []) ≡ Some (pos 1 ∷ pos 1 ∷ [])
greater_shows_less = refl

-- 3x - y >= 1 and -x + 3y >= 1, of which -x - y + 7 >= 0 is not needed, show x >= 1
two_show : contradiction (row (negsuc 0) (pos 3) (negsuc 0) ∷ row (negsuc 0) (negsuc 0) (pos 3) ∷ row (pos 7) (negsuc 0) (negsuc 0) ∷ row (pos 0) (negsuc 0) (pos 0) ∷ []) ≡
    Some (pos 9 ∷ pos 3 ∷ pos 0 ∷ pos 24 ∷ [])
two_show = refl

-- 3x >= 1 does not show x >= 2, as x = 1/3 tells
third : (contradiction (row (negsuc 0) (pos 3) (pos 0) ∷ row (pos 1) (negsuc 0) (pos 0) ∷ []) ≡ None) × (found (row (negsuc 0) (pos 3) (pos 0) ∷ row (pos 1) (negsuc 0) (pos 0) ∷ []) ≡ at (pos 1) (pos 0) (pos 3))
third = (refl, refl)

-- 2x + y >= 1 and -x + 3y >= 1 do not show x >= 9: y gets its greatest lower bound, and x then its own
two_variables : found (row (negsuc 0) (pos 2) (pos 1) ∷ row (negsuc 0) (negsuc 0) (pos 3) ∷ row (pos 8) (negsuc 0) (pos 0) ∷ []) ≡ at (pos 4) (pos 6) (pos 14)
two_variables = refl
