-- The values that the search computes with.
use Rattle.std.specs.Prelude.{ℕ, ℤ, pos, List, ◌≡◌}
use Rattle.std.specs.List.{AllByRecursion}
use Rattle.pc_simplex.specs.declared.label.Label.{Label}

-- a line of a table: its label, its constant, and its number in each column
pub record Line : Type 0 where
  pub label : Label
  pub constant : ℤ
  pub numbers : List ℤ

-- the denominator times the label of a line is the sum of its numbers times the labels of the columns, plus its constant
pub record Table : Type 0 where
  pub denominator : ℤ
  pub columns : List Label
  pub lines : List Line

-- a place of a list, and the label there
pub record Pick : Type 0 where
  pub index : ℕ
  pub label : Label

-- what a pivot does to the other lines: the denominator before it, and its column and its line
pub record Pivot : Type 0 where
  pub denominator : ℤ
  pub column : ℕ
  pub line : Line

-- numbers that are 0
abbrev pub AreZero : List ℤ → Type 0
AreZero xs = AllByRecursion (λ x. x ≡ pos 0) xs
