-- Boxes forwards: what an edge makes of a box.
use Rattle.std.specs.Prelude.{ℕ, ◌≤◌, min, nat_lt, if◌then◌else◌, ℤ, pos, int_lt, List, [], ◌∷◌, length, Option, Some, None}
use Rattle.std.proofs.Math.Dec.{lit≤}
use Rattle.std.proofs.Math.Nat.{min-le_left}
use Rattle.pc_language.specs.Ends.{end_of}
use Rattle.pc_rows.specs.Linear.{Linear}
use Rattle.pc_rows.specs.Readers.{terms_of}
use Rattle.pc_flow.specs.declared.what.What.{What}
use Rattle.pc_flow.specs.declared.what.What.TheVariants.{Enter, Test, Set, Check}
use Rattle.pc_domain.specs.declared.limits.TheConstants.{PARTS}
use Rattle.pc_box.specs.declared.limits.TheConstants.{WIDENING_ROUND}
use Rattle.pc_box.specs.declared.form.Side.TheVariants.{Least, Greatest}
use Rattle.pc_box.specs.declared.interval.Interval.{Interval}
use Rattle.pc_box.specs.Intervals.{is_hollow, cut}
use Rattle.pc_box.specs.Boxes.{Bounded, Box, interval_at, put, entered, join_of, steadies, are_within, counted}
use Rattle.pc_box.specs.Forms.{end_of_form}

abbrev pub with_intervals : Bounded → List Interval → Bounded
with_intervals b bs = record { hint = b.hint; intervals = bs }

-- ---- rows that a state has met

-- a variable's interval, which may be empty
abbrev pub narrowed : Bounded → ℕ → Interval → Box
narrowed b x i = if is_hollow i then None else Some (with_intervals b (put b.intervals x i))

-- a row with no variable and a negative constant gives the empty box, one with one variable cuts it, and others leave the box
abbrev pub cut_terms : Bounded → ℤ → List (ℕ × ℤ) → Box
cut_terms b c [] = if int_lt c (pos 0) then None else Some b
cut_terms b c (t ∷ []) = narrowed b t.0 (cut t.1 c (interval_at b.intervals t.0))
cut_terms b c (t ∷ u ∷ ts) = Some b

abbrev pub cut_row : Box → Linear → Box
cut_row None r = None
cut_row (Some b) r = cut_terms b r.constant (terms_of r)

-- what rows make of a box, one after the other
abbrev pub by_rows : (Box → Linear → Box) → Box → List Linear → Box
by_rows step b [] = b
by_rows step b (r ∷ rows) = by_rows step (step b r) rows

abbrev pub cut_rows : Box → List Linear → Box
cut_rows b rows = by_rows cut_row b rows

-- ---- assignments

abbrev pub assigned : Bounded → ℕ → Linear → Option ℤ → Option ℤ → Bounded
assigned b x form lo hi = with_intervals b
    (put b.intervals x (record { least = end_of_form Least b.intervals form lo; greatest = end_of_form Greatest b.intervals form hi }))

-- ---- edges

abbrev pub after_of : What → Box → Box
after_of w None = None
after_of (Enter params) (Some b) = Some (with_intervals b (entered params b.hint b.intervals))
after_of (Test rows) (Some b) = cut_rows (Some b) rows
after_of (Set x form lo hi) (Some b) = Some (assigned b x form (end_of lo) (end_of hi))
after_of (Check rows) (Some b) = cut_rows (Some b) rows

-- ---- widening

-- None where the newer box lies within the old one; an old empty box gives way to the newer one; any other is the hull, in which from
-- WIDENING_ROUND on a bound that moved is absent
abbrev pub widened : Box → Box → ℕ → Option Box
widened old None round = None
widened None (Some newer) round = Some (Some newer)
widened (Some old) (Some newer) round =
    if are_within newer.intervals old.intervals then None
    else if nat_lt round WIDENING_ROUND then Some (join_of (Some old) (Some newer))
    else Some (Some (with_intervals old (steadies old.intervals newer.intervals)))

-- the most that there may be where the box is empty, and else how many bounds are present, of which no box has more
abbrev pub parts_of : Box → ℕ
parts_of None = PARTS
parts_of (Some b) = min PARTS (counted (interval_at b.intervals) (length b.intervals))

pub few_parts : (b : Box) → parts_of b ≤ PARTS
few_parts None = lit≤ tt
few_parts (Some b) = min-le_left PARTS (counted (interval_at b.intervals) (length b.intervals))
