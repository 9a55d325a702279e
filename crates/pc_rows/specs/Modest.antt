-- Systems that are small enough to be settled without leaving the range.
use Rattle.std.specs.Prelude.{◌+◌, ◌≤◌, ℕ, zero, suc, Bool, not, List, [], ◌∷◌, ◌++◌, length, if◌then◌else◌}
use Rattle.std.specs.List.{list_any}
use Rattle.pc_rows.specs.declared.row.TheConstants.{VARIABLES}
use Rattle.pc_rows.specs.declared.system.TheConstants.{MODEST_ROWS, MODEST_VARIABLES, MODEST_NUMBER}
use Rattle.pc_rows.specs.Linear.{Linear, coefficient, is_zero, negation}
use Rattle.pc_rows.specs.Bounds.{Within, AllWithin}
use Rattle.pc_rows.specs.Evidence.{System}

-- the premises and the negated goal
abbrev pub refuting : System → List Linear
refuting s = s.premises ++ negation s.goal ∷ []

-- some row has a coefficient other than 0 at variable v
abbrev pub occurs : ℕ → List Linear → Bool
occurs v rows = list_any (λ r. not (is_zero (coefficient r v))) rows

-- how many of the n variables from v on occur
abbrev pub occurring : ℕ → ℕ → List Linear → ℕ
occurring zero v rows = 0
occurring (suc n) v rows = (if occurs v rows then 1 else 0) + occurring n (suc v) rows

-- few rows and few variables, and small numbers in premises, goal and negated goal
pub record IsModest (s : System) : Type 0 where
  pub rows : length (refuting s) ≤ MODEST_ROWS
  pub variables : occurring VARIABLES 0 (refuting s) ≤ MODEST_VARIABLES
  pub numbers : AllWithin MODEST_NUMBER (refuting s)
  pub goal : Within MODEST_NUMBER s.goal
