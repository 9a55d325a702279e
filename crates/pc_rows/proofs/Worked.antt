-- The definitions at worked values: x is variable 0 and y variable 1.
use Rattle.std.proofs.Common.{◌≡◌, ℤ, pos, negsuc, [], ◌∷◌, refl, Some, None}
use Rattle.pc_rows.specs.Linear.{Linear, value, negation, difference_of, above_of, first_of}
use Rattle.pc_rows.specs.Substitution.{substituted, never_row}
use Rattle.pc_rows.specs.Joins.{joined}
use Rattle.pc_rows.specs.Shows.{total}
use Rattle.pc_rows.specs.Points.{numerator}
use Rattle.pc_rows.specs.Modest.{occurring}

abbrev row : ℤ → ℤ → ℤ → Linear
row c x y = record { constant = c; coefficients = x ∷ y ∷ [] }

-- x >= 0 before x = x - y
over_a_difference : substituted (row (pos 0) (pos 1) (pos 0)) 0 (difference_of (row (pos 0) (pos 1) (pos 0)) (row (pos 0) (pos 0) (pos 1))) (Some (pos 0)) (Some (pos 0)) ≡ row (pos 0) (pos 1) (negsuc 0)
over_a_difference = refl

-- 105 - y >= 0 before y = y + [0, 1]
over_a_choice : substituted (row (pos 105) (pos 0) (negsuc 0)) 1 (row (pos 0) (pos 0) (pos 1)) (Some (pos 0)) (Some (pos 1)) ≡ row (pos 104) (pos 0) (negsuc 0)
over_a_choice = refl

-- x - y >= 0 before x = x + [0, *], and -x + 5 >= 0, which some successor breaks
over_an_open_end : substituted (row (pos 0) (pos 1) (negsuc 0)) 0 (row (pos 0) (pos 1) (pos 0)) (Some (pos 0)) None ≡ row (pos 0) (pos 1) (negsuc 0)
over_an_open_end = refl

over_the_needed_open_end : substituted (row (pos 5) (negsuc 0) (pos 0)) 0 (row (pos 0) (pos 1) (pos 0)) (Some (pos 0)) None ≡ never_row
over_the_needed_open_end = refl

-- a row without the variable stays
over_another : substituted (row (pos 7) (pos 0) (pos 2)) 0 (row (pos 1) (pos 3) (pos 0)) (Some (pos 0)) (Some (pos 1)) ≡ row (pos 7) (pos 0) (pos 2)
over_another = refl

-- not 2x - y + 3 >= 0 is -2x + y - 4 >= 0
negated : negation (row (pos 3) (pos 2) (negsuc 0)) ≡ row (negsuc 3) (negsuc 1) (pos 1)
negated = refl

-- 2x - y + 3 at x = 4, y = 20
valued : value (row (pos 3) (pos 2) (negsuc 0)) (pos 4 ∷ pos 20 ∷ []) ≡ negsuc 8
valued = refl

-- x >= 0 covers x + 3 >= 0, and 5 >= 0 is met by every state; x - 1 >= 0 is not covered
joined_rows : joined (row (pos 0) (pos 1) (pos 0) ∷ []) (row (pos 3) (pos 1) (pos 0) ∷ row (pos 5) (pos 0) (pos 0) ∷ row (negsuc 0) (pos 1) (pos 0) ∷ []) ≡ row (pos 0) (pos 1) (pos 0) ∷ row (negsuc 0) (pos 1) (pos 0) ∷ []
joined_rows = refl

-- 3x + y + 5 - (x + 2y + 1) - 1 = 2x - y + 3
above : above_of (row (pos 5) (pos 3) (pos 1)) (row (pos 1) (pos 1) (pos 2)) ≡ row (pos 3) (pos 2) (negsuc 0)
above = refl

-- 2x - y + 3 where y is 0
first_variable : first_of 1 (row (pos 3) (pos 2) (negsuc 0)) ≡ row (pos 3) (pos 2) (pos 0)
first_variable = refl

-- -x + y + 2 >= 0 and -y + 100 >= 0 show -x + 104 >= 0: the total is -3
shown : total (row (pos 2) (negsuc 0) (pos 1) ∷ row (pos 100) (pos 0) (negsuc 0) ∷ []) (row (pos 104) (negsuc 0) (pos 0))
    (record { goal = pos 1; parts = record { index = 0; multiplier = pos 1 } ∷ record { index = 1; multiplier = pos 1 } ∷ [] })
    ≡ row (negsuc 2) (pos 0) (pos 0)
shown = refl

-- 2x - y + 3 at x = 4/3, y = 20/3 is -1
valued_at_a_point : numerator (row (pos 3) (pos 2) (negsuc 0)) (record { numerators = pos 4 ∷ pos 20 ∷ []; denominator = pos 3 }) ≡ negsuc 2
valued_at_a_point = refl

-- of x, y and a third variable only y occurs in 3y + 1 and y
one_occurs : occurring 3 0 (row (pos 1) (pos 0) (pos 3) ∷ row (pos 0) (pos 0) (pos 1) ∷ []) ≡ 1
one_occurs = refl
