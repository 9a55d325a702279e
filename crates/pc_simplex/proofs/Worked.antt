-- The turns at worked systems: x is variable 0 and y variable 1.
use Rattle.std.proofs.Common.{◌≡◌, ◌-◌, ◌^◌, ℤ, pos, negsuc, List, [], ◌∷◌, replicate, refl}
use Rattle.pc_rows.specs.declared.row.TheConstants.{VARIABLES}
use Rattle.pc_rows.specs.Linear.{Linear}
use Rattle.pc_simplex.specs.declared.label.Label.TheVariants.{Variable, Row}
use Rattle.pc_simplex.specs.declared.choice.Choice.TheVariants.{Stuck, Exchange}
use Rattle.pc_simplex.specs.declared.guess.Guess.TheVariants.{Shown, Point, GaveUp}
use Rattle.pc_simplex.specs.Values.{Table}
use Rattle.pc_simplex.specs.Choosing.{chosen}
use Rattle.pc_simplex.specs.Pivoting.{exchanged}
use Rattle.pc_simplex.specs.Found.{numerators_from}
use Rattle.pc_simplex.specs.Turns.{variables_from, turns, found}

abbrev row : ℤ → ℤ → ℤ → Linear
row c x y = record { constant = c; coefficients = x ∷ y ∷ [] }

-- numerators of x and y; every other variable is 0
abbrev at : ℤ → ℤ → List ℤ
at x y = x ∷ y ∷ replicate (VARIABLES - 2) (pos 0)

-- x >= 0, y >= 0 and -x - y + 4 >= 0
abbrev triangle : List Linear
triangle = row (pos 0) (pos 1) (pos 0) ∷ row (pos 0) (pos 0) (pos 1) ∷ row (pos 4) (negsuc 0) (negsuc 0) ∷ []

-- they show -x + 4 >= 0: x - 5, y and -x - y + 4 are together -1
follows : found (record { premises = triangle; goal = row (pos 4) (negsuc 0) (pos 0) }) ≡ Shown (record { goal = pos 1; parts = record { index = 1; multiplier = pos 1 } ∷ record { index = 2; multiplier = pos 1 } ∷ [] })
unfolding variables_from turns
follows = refl

-- they do not show -x + 3 >= 0: x may be 4, and y 0
fails : found (record { premises = triangle; goal = row (pos 3) (negsuc 0) (pos 0) }) ≡ Point (record { numerators = at (pos 4) (pos 0); denominator = pos 1 })
unfolding variables_from turns numerators_from
fails = refl

-- 5 >= 0 needs no premise
always : found (record { premises = []; goal = row (pos 5) (pos 0) (pos 0) }) ≡ Shown (record { goal = pos 1; parts = [] })
unfolding variables_from turns
always = refl

-- without premises x may be -1
free : found (record { premises = []; goal = row (pos 0) (pos 1) (pos 0) }) ≡ Point (record { numerators = at (negsuc 0) (pos 0); denominator = pos 1 })
unfolding variables_from turns numerators_from
free = refl

-- 3x - 2y - 1 >= 0 and -2x + y + 5 >= 0 do not show 2x - 5y - 3 >= 0: x may be 1/3, and y 0
a_third : found (record { premises = row (negsuc 0) (pos 3) (negsuc 1) ∷ row (pos 5) (negsuc 1) (pos 1) ∷ []; goal = row (negsuc 2) (pos 2) (negsuc 4) }) ≡ Point (record { numerators = at (pos 1) (pos 0); denominator = pos 3 })
unfolding variables_from turns numerators_from
a_third = refl

-- 3x + 2y - 1 >= 0, -2x + 3y + 5 >= 0 and -x - 2y + 1 >= 0 show x - 5y + 3 >= 0
weighed : found (record { premises = row (negsuc 0) (pos 3) (pos 2) ∷ row (pos 5) (negsuc 1) (pos 3) ∷ row (pos 1) (negsuc 0) (negsuc 1) ∷ []; goal = row (pos 3) (pos 1) (negsuc 4) }) ≡ Shown (record { goal = pos 4; parts = record { index = 0; multiplier = pos 7 } ∷ record { index = 2; multiplier = pos 17 } ∷ [] })
unfolding variables_from turns
weighed = refl

-- a product that is not in range
too_great : found (record { premises = row (pos (2 ^ 126)) (pos 1) (pos 0) ∷ []; goal = row (pos (2 ^ 126)) (pos (2 ^ 100)) (pos 0) }) ≡ GaveUp
unfolding variables_from turns
too_great = refl

-- -r - 1 of the goal 2^127 - 1 is -2^127, which is not in range
no_opposite : found (record { premises = []; goal = row (pos (2 ^ 127 - 1)) (pos 0) (pos 0) }) ≡ GaveUp
unfolding variables_from turns
no_opposite = refl

-- one turn: the row 2x + y - 3 is exchanged with x, so that the column of x stands for it
abbrev before : Table
before = record {
  denominator = pos 1;
  columns = Variable 0 ∷ Variable 1 ∷ [];
  lines =
      (record { label = Row 0; constant = negsuc 2; numbers = pos 2 ∷ pos 1 ∷ [] })
      ∷ (record { label = Row 1; constant = pos 5; numbers = negsuc 0 ∷ pos 3 ∷ [] }) ∷ [];
}

first_choice : chosen before ≡ Exchange 0 0
first_choice = refl

-- 2x = s - y + 3, and twice -x + 3y + 5 is -s + 7y + 7
after : exchanged before 0 0 ≡ record {
  denominator = pos 2;
  columns = Row 0 ∷ Variable 1 ∷ [];
  lines =
      (record { label = Variable 0; constant = pos 3; numbers = pos 1 ∷ negsuc 0 ∷ [] })
      ∷ (record { label = Row 1; constant = pos 7; numbers = negsuc 0 ∷ pos 7 ∷ [] }) ∷ [];
}
after = refl

-- a line with no variable, and no row with a number above 0
stuck : chosen (record { denominator = pos 2; columns = Row 0 ∷ Variable 1 ∷ []; lines = (record { label = Row 1; constant = negsuc 0; numbers = negsuc 2 ∷ pos 0 ∷ [] }) ∷ [] }) ≡ Stuck 0
stuck = refl
