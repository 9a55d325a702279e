-- Intervals of integers, of which either end may be absent.
use Rattle.std.specs.Prelude.{◌&&◌, ℕ, ◌+◌, Bool, true, false, if◌then◌else◌, ℤ, pos, neg_ℤ, int_le, int_lt, Option, Some, None}
use Rattle.std.specs.Int.{int_div_euclid}
use Rattle.pc_rows.specs.Substitution.{IsNotBelow, IsNotAbove, lesser}
use Rattle.pc_box.specs.declared.interval.Interval.{Interval}

-- all integers
abbrev pub free : Interval
free = record { least = None; greatest = None }

-- 0 alone
abbrev pub only_zero : Interval
only_zero = record { least = Some (pos 0); greatest = Some (pos 0) }

-- x is in the interval
abbrev pub Holds : Interval → ℤ → Type 0
Holds i x = IsNotBelow i.least x × IsNotAbove i.greatest x

abbrev pub greater : ℤ → ℤ → ℤ
greater a b = if int_lt a b then b else a

-- ---- the hull of two intervals: an end is absent where one of them has none

abbrev pub hull_least : Option ℤ → Option ℤ → Option ℤ
hull_least (Some m) (Some n) = Some (lesser m n)
hull_least (Some m) None = None
hull_least None n = None

abbrev pub hull_greatest : Option ℤ → Option ℤ → Option ℤ
hull_greatest (Some m) (Some n) = Some (greater m n)
hull_greatest (Some m) None = None
hull_greatest None n = None

abbrev pub hull : Interval → Interval → Interval
hull i j = record { least = hull_least i.least j.least; greatest = hull_greatest i.greatest j.greatest }

-- ---- the hull in which an end that moved is absent

abbrev pub steady_least : Option ℤ → Option ℤ → Option ℤ
steady_least (Some m) (Some n) = if int_lt n m then None else Some m
steady_least (Some m) None = None
steady_least None n = None

abbrev pub steady_greatest : Option ℤ → Option ℤ → Option ℤ
steady_greatest (Some m) (Some n) = if int_lt m n then None else Some m
steady_greatest (Some m) None = None
steady_greatest None n = None

abbrev pub steady : Interval → Interval → Interval
steady i j = record { least = steady_least i.least j.least; greatest = steady_greatest i.greatest j.greatest }

-- ---- whether one interval lies within another

abbrev pub least_within : Option ℤ → Option ℤ → Bool
least_within n None = true
least_within None (Some m) = false
least_within (Some n) (Some m) = int_le m n

abbrev pub greatest_within : Option ℤ → Option ℤ → Bool
greatest_within n None = true
greatest_within None (Some m) = false
greatest_within (Some n) (Some m) = int_le n m

abbrev pub is_within : Interval → Interval → Bool
is_within i j = least_within i.least j.least && greatest_within i.greatest j.greatest

-- ---- cutting

-- the least end exceeds the greatest one
abbrev pub is_hollow_between : Option ℤ → Option ℤ → Bool
is_hollow_between (Some m) (Some n) = int_lt n m
is_hollow_between (Some m) None = false
is_hollow_between None n = false

abbrev pub is_hollow : Interval → Bool
is_hollow i = is_hollow_between i.least i.greatest

-- the greater of a least end and a number, and the lesser of a greatest end and a number
abbrev pub raised : Option ℤ → ℤ → ℤ
raised None n = n
raised (Some m) n = greater m n

abbrev pub lowered : Option ℤ → ℤ → ℤ
lowered None n = n
lowered (Some m) n = lesser m n

-- the x of the interval with a * x + c >= 0, where a is not 0: at least the least integer not below -c / a where a > 0, and at most
-- the greatest integer not above c / -a where a < 0
abbrev pub cut : ℤ → ℤ → Interval → Interval
cut a c i =
    if int_lt (pos 0) a then (record { least = Some (raised i.least (neg_ℤ (int_div_euclid c a))); greatest = i.greatest })
    else (record { least = i.least; greatest = Some (lowered i.greatest (int_div_euclid c (neg_ℤ a))) })

-- ---- how many ends are present

abbrev pub count_end : Option ℤ → ℕ
count_end None = 0
count_end (Some n) = 1

abbrev pub count_ends : Interval → ℕ
count_ends i = count_end i.least + count_end i.greatest
