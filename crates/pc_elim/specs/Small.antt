-- Rows whose numbers are so small that no combination of two of them leaves the range.
use Rattle.std.specs.Prelude.{◌&&◌, ℤ, neg_ℤ, int_le, Bool}
use Rattle.std.specs.List.{list_all}
use Rattle.pc_rows.specs.Linear.{Linear}
use Rattle.pc_elim.specs.declared.small.TheConstants.{SMALL}
use Rattle.pc_elim.specs.Values.{Made}

abbrev pub is_small : ℤ → Bool
is_small z = int_le z SMALL && int_le (neg_ℤ SMALL) z

-- all numbers of the row
abbrev pub is_small_row : Linear → Bool
is_small_row r = list_all is_small r.coefficients && is_small r.constant

-- and its multipliers
abbrev pub is_small_made : Made → Bool
is_small_made r = is_small_row r.row && list_all is_small r.multipliers
