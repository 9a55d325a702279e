-- Intersections of boxes.
use Rattle.std.specs.Prelude.{ℕ, max, Bool, true, false, if◌then◌else◌, ℤ, List, length, Option, Some, None}
use Rattle.pc_box.specs.declared.interval.Interval.{Interval}
use Rattle.pc_box.specs.Intervals.{raised, lowered, is_hollow}
use Rattle.pc_box.specs.Boxes.{Bounded, Box, interval_at, tabulated, all_below, are_within}
use Rattle.pc_box.specs.Forward.{with_intervals}

-- ---- the intersection of two intervals: an end that is absent bounds nothing

abbrev pub meet_least : Option ℤ → Option ℤ → Option ℤ
meet_least m None = m
meet_least m (Some n) = Some (raised m n)

abbrev pub meet_greatest : Option ℤ → Option ℤ → Option ℤ
meet_greatest m None = m
meet_greatest m (Some n) = Some (lowered m n)

abbrev pub meet : Interval → Interval → Interval
meet i j = record { least = meet_least i.least j.least; greatest = meet_greatest i.greatest j.greatest }

-- ---- boxes

abbrev pub meet_at : List Interval → List Interval → ℕ → Interval
meet_at as' bs v = meet (interval_at as' v) (interval_at bs v)

abbrev pub meets : List Interval → List Interval → List Interval
meets as' bs = tabulated (meet_at as' bs) (max (length as') (length bs))

abbrev pub is_solid_at : List Interval → ℕ → Bool
is_solid_at bs v = if is_hollow (interval_at bs v) then false else true

-- the bounds, or the empty box where an interval is empty
abbrev pub solid : Bounded → Box
solid b = if all_below (is_solid_at b.intervals) (length b.intervals) then Some b else None

abbrev pub both_of : Box → Box → Box
both_of None b = None
both_of (Some a) None = None
both_of (Some a) (Some b) = solid (with_intervals a (meets a.intervals b.intervals))

-- the one box lies within the other
abbrev pub is_box_within : Box → Box → Bool
is_box_within None b = true
is_box_within (Some a) None = false
is_box_within (Some a) (Some b) = are_within a.intervals b.intervals
