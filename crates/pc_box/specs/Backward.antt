-- Boxes backwards: what an edge asks for a box at its target.
use Rattle.std.specs.Prelude.{◌≡◌, ◌||◌, ℕ, min, nat_lt, Bool, false, if◌then◌else◌, ℤ, pos, neg_ℤ, ◌-ℤ◌, int_le, List, [], ◌∷◌, length, Option, Some, None}
use Rattle.pc_language.specs.Ends.{end_of}
use Rattle.pc_rows.specs.Linear.{Linear}
use Rattle.pc_rows.specs.Readers.{terms_of}
use Rattle.pc_flow.specs.declared.what.What.{What}
use Rattle.pc_flow.specs.declared.what.What.TheVariants.{Enter, Test, Set, Check}
use Rattle.pc_domain.specs.View.{BackRelations}
use Rattle.pc_box.specs.declared.limits.TheConstants.{NARROWING_ROUND}
use Rattle.pc_box.specs.declared.form.Side.{Side}
use Rattle.pc_box.specs.declared.form.Side.TheVariants.{Least, Greatest}
use Rattle.pc_box.specs.declared.interval.Interval.{Interval}
use Rattle.pc_box.specs.Intervals.{free, only_zero, is_within}
use Rattle.pc_box.specs.Boxes.{Bounded, Box, interval_at, tabulated, all_below, put, rows_of}
use Rattle.pc_box.specs.Forms.{kept, plus_choice, end_of_form}
use Rattle.pc_box.specs.Forward.{with_intervals, cut_terms, by_rows}
use Rattle.pc_box.specs.Meeting.{both_of, is_box_within}
use Rattle.pc_box.specs.Views.{view_of, box_of, boundless}

-- ---- assertions

abbrev pub is_not_negative : Option ℤ → Bool
is_not_negative None = false
is_not_negative (Some n) = int_le (pos 0) n

-- each state of the box meets the row, as its least value there tells
abbrev pub is_implied : Bounded → Linear → Bool
is_implied b r = is_not_negative (end_of_form Least b.intervals r (Some (pos 0)))

-- a row with at most one variable cuts; one with more that the box does not imply gives nothing
abbrev pub claimed_terms : Bounded → Linear → List (ℕ × ℤ) → Box
claimed_terms b r [] = cut_terms b r.constant []
claimed_terms b r (t ∷ []) = cut_terms b r.constant (t ∷ [])
claimed_terms b r (t ∷ u ∷ ts) = if is_implied b r then Some b else None

abbrev pub claimed_row : Box → Linear → Box
claimed_row None r = None
claimed_row (Some b) r = claimed_terms b r (terms_of r)

abbrev pub claimed_rows : Box → List Linear → Box
claimed_rows b rows = by_rows claimed_row b rows

-- ---- assignments

-- how far c is on a side's inner side of n: above a least number, below a greatest one
abbrev pub distance : Side → ℤ → ℤ → ℤ
distance Least c n = c -ℤ n
distance Greatest c n = n -ℤ c

abbrev pub gap : Side → Option ℤ → ℤ → Option ℤ
gap side None n = None
gap side (Some c) n = kept (distance side c n)

-- a coefficient, as it counts on that side
abbrev pub signed : Side → ℤ → ℤ
signed Least a = a
signed Greatest a = neg_ℤ a

-- a form with at most one variable cuts; one with more, or without a constant, gives nothing
abbrev pub cut_form : Side → Box → Option ℤ → List (ℕ × ℤ) → Box
cut_form side None c ts = None
cut_form side (Some b) None ts = None
cut_form side (Some b) (Some c) [] = cut_terms b c []
cut_form side (Some b) (Some c) (t ∷ []) = cut_terms b c ((t.0, signed side t.1) ∷ [])
cut_form side (Some b) (Some c) (t ∷ u ∷ ts) = None

-- with the choice at its end on that side the form has to be on the inner side of the number that is wanted, if one is; an open end, or a
-- number that is not in range, gives nothing
abbrev pub asked : Side → Box → Linear → Option ℤ → Option ℤ → Box
asked side b form choice None = b
asked side b form choice (Some n) = cut_form side b (gap side (plus_choice (Some form.constant) choice) n) (terms_of form)

abbrev pub freed : Bounded → ℕ → Bounded
freed b x = with_intervals b (put b.intervals x free)

-- what was wanted of x is asked of the form with either end of the choice, and x is free
abbrev pub before_set : Bounded → ℕ → Linear → Option ℤ → Option ℤ → Box
before_set b x form lo hi =
    asked Greatest (asked Least (Some (freed b x)) form lo (interval_at b.intervals x).least) form hi (interval_at b.intervals x).greatest

-- ---- the entry

-- the variable is a parameter, or 0 will do
abbrev pub may_be_zero : ℕ → List Interval → ℕ → Bool
may_be_zero params bs v = nat_lt v params || is_within only_zero (interval_at bs v)

abbrev pub firsts : ℕ → List Interval → List Interval
firsts params bs = tabulated (interval_at bs) (min params (length bs))

-- the intervals of the parameters, where 0 will do for each variable behind them
abbrev pub before_enter : ℕ → Bounded → Box
before_enter params b =
    if all_below (may_be_zero params b.intervals) (length b.intervals) then Some (with_intervals b (firsts params b.intervals)) else None

-- ---- edges; a test asks nothing more

abbrev pub before_of : What → Box → Box
before_of w None = None
before_of (Enter params) (Some b) = before_enter params b
before_of (Test rows) (Some b) = Some b
before_of (Set x form lo hi) (Some b) = before_set b x form (end_of lo) (end_of hi)
before_of (Check rows) (Some b) = claimed_rows (Some b) rows

-- ---- narrowing

-- None where the old box lies within the newer one; else their intersection, and the empty box from NARROWING_ROUND on
abbrev pub narrower : Box → Box → ℕ → Option Box
narrower old newer round =
    if is_box_within old newer then None
    else if nat_lt round NARROWING_ROUND then Some (both_of old newer)
    else Some None

-- ---- what the calls do to views; the rows of the entry are those of the box before the entry's edge

abbrev pub box_back_says : BackRelations
box_back_says = record {
  everything = λ n v. v ≡ view_of (boundless n);
  nothing = λ n v. v ≡ None;
  before = λ v e w. w ≡ view_of (before_of e (box_of v));
  both = λ u v w. w ≡ view_of (both_of (box_of u) (box_of v));
  rows = λ v params rows. rows ≡ rows_of (before_of (Enter params) (box_of v));
}
