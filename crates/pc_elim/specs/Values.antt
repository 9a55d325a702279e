-- The values that elimination computes with.
use Rattle.std.specs.Prelude.{ℤ, List}
use Rattle.pc_rows.specs.Linear.{Linear}

-- a row, and a multiplier for each of the rows at the start that together make it
pub record Made : Type 0 where
  pub row : Linear
  pub multipliers : List ℤ

-- a bound of a variable: the number over the weight and over the denominator of a point, with a weight above 0
pub record Bound : Type 0 where
  pub number : ℤ
  pub weight : ℤ
