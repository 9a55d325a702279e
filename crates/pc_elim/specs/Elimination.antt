-- Fourier-Motzkin elimination: a variable goes from rows by the combinations of two rows in which it has opposite signs.
use Rattle.std.specs.Prelude.{◌≡◌, ℕ, zero, suc, ◌+◌, ℤ, pos, neg_ℤ, ◌≤ℤ◌, int_lt, Bool, List, [], ◌∷◌, ◌++◌, slice_set, replicate, if◌then◌else◌}
use Rattle.std.specs.List.{AllByRecursion}
use Rattle.pc_rows.specs.Linear.{Linear, add_lists, scale_list, sum_of, scaled_by, coefficient, is_zero}
use Rattle.pc_rows.specs.Shows.{nothing_row}
pub use Rattle.pc_elim.specs.Values.{Made, Bound}

-- above 0
abbrev pub is_positive : ℤ → Bool
is_positive z = int_lt (pos 0) z

-- the coefficient at variable k
abbrev pub factor : Made → ℕ → ℤ
factor r k = coefficient r.row k

-- b times the first numbers plus a times the second
abbrev pub weigh : ℤ → List ℤ → ℤ → List ℤ → List ℤ
weigh b p a n = add_lists (scale_list b p) (scale_list a n)

-- each row times the absolute value of the other's factor, where that of p is above 0 and that of n below: variable k is gone
abbrev pub combine : ℕ → Made → Made → Made
combine k p n =
    record {
      row = sum_of (scaled_by (neg_ℤ (factor n k)) p.row) (scaled_by (factor p k) n.row);
      multipliers = weigh (neg_ℤ (factor n k)) p.multipliers (factor p k) n.multipliers;
    }

-- what is made of each row, in order
abbrev pub flat : (Made → List Made) → List Made → List Made
flat f [] = []
flat f (r ∷ rs) = f r ++ flat f rs

-- the combination of p with a row in which the variable has a negative factor
abbrev pub pair_of : ℕ → Made → Made → List Made
pair_of k p n = if is_positive (neg_ℤ (factor n k)) then (combine k p n ∷ []) else []

-- the combinations of p with each row in which the variable has a negative factor
abbrev pub with_each : ℕ → Made → List Made → List Made
with_each k p ns = flat (pair_of k p) ns

-- a row without the variable is kept
abbrev pub kept_of : ℕ → Made → List Made
kept_of k r = if is_zero (factor r k) then (r ∷ []) else []

-- a row with a positive factor is combined with each that has a negative one
abbrev pub combined_of : ℕ → List Made → Made → List Made
combined_of k all r = if is_positive (factor r k) then with_each k r all else []

-- the rows without variable k, which a point can be made to meet exactly where it can be made to meet the rows: those that do not have it, and then the combinations
abbrev pub eliminated : ℕ → List Made → List Made
eliminated k rs = flat (kept_of k) rs ++ flat (combined_of k rs) rs

-- the rows without the first k variables
abbrev pub level : ℕ → List Made → List Made
level zero rs = rs
level (suc k) rs = eliminated k (level k rs)

-- the sum of the rows, each times its multiplier
abbrev pub combination : List ℤ → List Linear → Linear
combination [] rows = nothing_row
combination (m ∷ ms) [] = nothing_row
combination (m ∷ ms) (r ∷ rows) = sum_of (scaled_by m r) (combination ms rows)

-- what every made row keeps: its multipliers make it of the rows at the start, and none is negative
pub record Carries (rows : List Linear) (r : Made) : Type 0 where
  pub made : r.row ≡ combination r.multipliers rows
  pub not_negative : AllByRecursion (λ m. pos 0 ≤ℤ m) r.multipliers

-- the multipliers of row n alone, among so many
abbrev pub unit : ℕ → ℕ → List ℤ
unit parts n = slice_set (replicate parts (pos 0)) n (pos 1)

-- at the start each row is made of itself
abbrev pub started_from : ℕ → ℕ → List Linear → List Made
started_from parts n [] = []
started_from parts n (r ∷ rows) = (record { row = r; multipliers = unit parts n }) ∷ started_from parts (n + 1) rows

-- all rows at the start
abbrev pub started : ℕ → List Linear → List Made
started parts rows = started_from parts zero rows
