-- Totals that are made in place: what adding a multiple gives, and the first variable of a total.
use Rattle.std.specs.Prelude.{◌≡◌, ℕ, ℤ, not, List, Option, Result, Ok, Err}
use Rattle.std.specs.List.{position_from}
use Rattle.pc_rows.specs.declared.number.Past.{Past}
use Rattle.pc_rows.specs.Linear.{Linear, IsInRange, add_lists, scale_list, sum_of, scaled_by, is_zero}
use Rattle.pc_rows.specs.Merges.{MultipleFits}

-- k times each number is added; a fault comes exactly where a product or a sum is not in range
abbrev pub AddMultipleIs : List ℤ → ℤ → List ℤ → Result (Unit {0}) Past → List ℤ → Type 0
AddMultipleIs old k cs (Ok u) new = MultipleFits old k cs × (new ≡ add_lists old (scale_list k cs))
AddMultipleIs old k cs (Err e) new = MultipleFits old k cs → ⊥

-- k times a row, and its sum with what there is, are in range
abbrev pub TimesFits : Linear → ℤ → Linear → Type 0
TimesFits sum k r = IsInRange (scaled_by k r) × IsInRange (sum_of sum (scaled_by k r))

-- k times a row is added; a fault comes exactly where a product or a sum is not in range
abbrev pub AddTimesIs : Linear → ℤ → Linear → Result (Unit {0}) Past → Linear → Type 0
AddTimesIs old k r (Ok u) new = TimesFits old k r × (new ≡ sum_of old (scaled_by k r))
AddTimesIs old k r (Err e) new = TimesFits old k r → ⊥

-- the first variable whose coefficient is not 0
abbrev pub first_variable : List ℤ → Option ℕ
first_variable cs = position_from (λ c. not (is_zero c)) 0 cs
