-- Rows whose numbers are small.
use Rattle.std.specs.Prelude.{ℕ, ◌≤◌, ℤ, unsigned_abs, List}
use Rattle.std.specs.List.{AllByRecursion}
use Rattle.pc_rows.specs.Linear.{Linear}

-- a number whose absolute value is at most the bound
abbrev pub IsWithin : ℕ → ℤ → Type 0
IsWithin bound z = unsigned_abs z ≤ bound

abbrev pub AreWithin : ℕ → List ℤ → Type 0
AreWithin bound zs = AllByRecursion (IsWithin bound) zs

-- a row all of whose numbers are within the bound
pub record Within (bound : ℕ) (r : Linear) : Type 0 where
  pub constant : IsWithin bound r.constant
  pub coefficients : AreWithin bound r.coefficients

abbrev pub AllWithin : ℕ → List Linear → Type 0
AllWithin bound rows = AllByRecursion (Within bound) rows
