-- Boxes: an interval for each variable.
use Rattle.std.specs.Prelude.{◌==◌, ◌&&◌, ℕ, zero, suc, ◌+◌, ◌≤◌, MatchOption, max, min, nat_lt, Bool, true, if◌then◌else◌, ℤ, pos, negsuc, neg_ℤ, List, [], ◌∷◌, ◌++◌, length, Option, Some, None, slice_get}
use Rattle.pc_rows.specs.Laws.{at}
use Rattle.pc_rows.specs.Linear.{Linear, State, of_constant, with_coefficient}
use Rattle.pc_rows.specs.Substitution.{never_row}
use Rattle.pc_rows.specs.declared.row.TheConstants.{VARIABLES}
use Rattle.pc_box.specs.declared.interval.Interval.{Interval}
use Rattle.pc_box.specs.Intervals.{free, only_zero, Holds, hull, steady, is_within, count_ends}

-- the number of variables that the box was made for, and the intervals of the variables in order; the others are free
pub record Bounded : Type 0 where
  pub hint : ℕ
  pub intervals : List Interval

-- a box is empty, or has its bounds
abbrev pub Box : Type 0
Box = Option Bounded

abbrev pub found : Option Interval → Interval
found None = free
found (Some i) = i

-- the interval of variable v
abbrev pub interval_at : List Interval → ℕ → Interval
interval_at bs v = found (slice_get bs v)

-- a state is in the box: the value of each variable is in its interval
abbrev pub HasBounds : List Interval → State → Type 0
HasBounds bs s = (v : ℕ) → Holds (interval_at bs v) (at s v)

abbrev pub HasBox : Box → State → Type 0
HasBox None s = ⊥
HasBox (Some b) s = HasBounds b.intervals s

-- a box has no more intervals than there are variables
abbrev pub IsNarrow : Box → Type 0
IsNarrow b = MatchOption b (Unit {0}) (λ b. length b.intervals ≤ VARIABLES)

-- the intervals of the first n variables
abbrev pub tabulated : (ℕ → Interval) → ℕ → List Interval
tabulated f zero = []
tabulated f (suc n) = tabulated f n ++ f n ∷ []

-- the test holds of all numbers below n
abbrev pub all_below : (ℕ → Bool) → ℕ → Bool
all_below test zero = true
all_below test (suc n) = all_below test n && test n

-- ---- one variable gets another interval

abbrev pub exchanged : List Interval → ℕ → Interval → ℕ → Interval
exchanged bs x i v = if v == x then i else interval_at bs v

abbrev pub put : List Interval → ℕ → Interval → List Interval
put bs x i = tabulated (exchanged bs x i) (max (x + 1) (length bs))

-- ---- the variables from `params` on: those below the hint are 0, the others free

abbrev pub entered_at : ℕ → List Interval → ℕ → Interval
entered_at params bs v = if nat_lt v params then interval_at bs v else only_zero

abbrev pub entered : ℕ → ℕ → List Interval → List Interval
entered params hint bs = tabulated (entered_at params bs) (max params hint)

-- ---- hulls

abbrev pub hull_at : List Interval → List Interval → ℕ → Interval
hull_at as' bs v = hull (interval_at as' v) (interval_at bs v)

abbrev pub hulls : List Interval → List Interval → List Interval
hulls as' bs = tabulated (hull_at as' bs) (min (length as') (length bs))

-- the hull of the empty box and another is the other
abbrev pub join_of : Box → Box → Box
join_of None b = b
join_of (Some a) None = Some a
join_of (Some a) (Some b) = Some (record { hint = a.hint; intervals = hulls a.intervals b.intervals })

-- ---- widening

abbrev pub steady_at : List Interval → List Interval → ℕ → Interval
steady_at as' bs v = steady (interval_at as' v) (interval_at bs v)

abbrev pub steadies : List Interval → List Interval → List Interval
steadies as' bs = tabulated (steady_at as' bs) (length as')

abbrev pub within_at : List Interval → List Interval → ℕ → Bool
within_at as' bs v = is_within (interval_at as' v) (interval_at bs v)

-- each interval of the one lies within that of the other
abbrev pub are_within : List Interval → List Interval → Bool
are_within as' bs = all_below (within_at as' bs) (length bs)

-- ---- the rows of a box: for each variable in order x - least and then -x + greatest, where these are

abbrev pub least_rows : ℕ → Option ℤ → List Linear
least_rows v None = []
least_rows v (Some n) = with_coefficient (of_constant (neg_ℤ n)) v (pos 1) ∷ []

abbrev pub greatest_rows : ℕ → Option ℤ → List Linear
greatest_rows v None = []
greatest_rows v (Some n) = with_coefficient (of_constant n) v (negsuc 0) ∷ []

abbrev pub rows_at : List Interval → ℕ → List Linear
rows_at bs v = least_rows v (interval_at bs v).least ++ greatest_rows v (interval_at bs v).greatest

abbrev pub rows_below : List Interval → ℕ → List Linear
rows_below bs zero = []
rows_below bs (suc n) = rows_below bs n ++ rows_at bs n

-- and of the empty box the row -1
abbrev pub rows_of : Box → List Linear
rows_of None = never_row ∷ []
rows_of (Some b) = rows_below b.intervals (length b.intervals)

-- ---- how many bounds are present

abbrev pub counted : (ℕ → Interval) → ℕ → ℕ
counted f zero = 0
counted f (suc n) = counted f n + count_ends (f n)
