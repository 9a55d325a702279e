-- What the code looks up before it combines rows: whether some row has the variable, and the places of those with a negative factor.
use Rattle.std.specs.Prelude.{◌+◌, ℕ, neg_ℤ, Bool, not, List, [], ◌∷◌, ◌++◌, slice_index_or, if◌then◌else◌}
use Rattle.std.specs.List.{list_any}
use Rattle.pc_rows.specs.Linear.{is_zero}
use Rattle.pc_elim.specs.Elimination.{Made, is_positive, factor, combine}

-- some row has the variable
abbrev pub has_variable : ℕ → List Made → Bool
has_variable k rs = list_any (λ r. not (is_zero (factor r k))) rs

-- the place of a row in which variable k has a negative factor
abbrev pub place_of : ℕ → ℕ → Made → List ℕ
place_of k i r = if is_positive (neg_ℤ (factor r k)) then (i ∷ []) else []

-- the places of these rows, counted from i on
abbrev pub places_below : ℕ → ℕ → List Made → List ℕ
places_below k i [] = []
places_below k i (r ∷ rs) = place_of k i r ++ places_below k (i + 1) rs

-- the combinations of p with the rows at these places
abbrev pub combined_at : ℕ → Made → List Made → List ℕ → List Made
combined_at k p all [] = []
combined_at k p all (i ∷ places) = combine k p (slice_index_or all i p) ∷ combined_at k p all places
