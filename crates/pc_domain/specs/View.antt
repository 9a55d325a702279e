-- Values of domains as plain data, and what the calls of a domain do to it.
use Rattle.std.specs.Prelude.{ℕ, ℤ, List, Option}
use Rattle.pc_rows.specs.Linear.{Linear}
use Rattle.pc_flow.specs.declared.what.What.{What}

-- nothing, or lists of integers that may be absent: one type for all domains
abbrev pub View : Type 0
View = Option (List (List (Option ℤ)))

-- what the calls of a forward domain do to views, as relations; they may say less than the calls do
pub record Relations : Type 1 where
  -- for a number of variables
  pub everything : ℕ → View → Type 0
  pub nothing : ℕ → View → Type 0
  pub after : View → What → View → Type 0
  pub join : View → View → View → Type 0
  pub rows : View → List Linear → Type 0

-- and those of a backward one, whose rows are for a number of parameters
pub record BackRelations : Type 1 where
  pub everything : ℕ → View → Type 0
  pub nothing : ℕ → View → Type 0
  pub before : View → What → View → Type 0
  pub both : View → View → View → Type 0
  pub rows : View → ℕ → List Linear → Type 0
