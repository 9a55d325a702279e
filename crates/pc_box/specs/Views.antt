-- Boxes as plain data.
use Rattle.std.specs.Prelude.{◌≡◌, ℕ, ℤ, pos, negsuc, List, [], ◌∷◌, map, Option, Some, None}
use Rattle.pc_domain.specs.View.{View, Relations}
use Rattle.pc_box.specs.declared.interval.Interval.{Interval}
use Rattle.pc_box.specs.Intervals.{free}
use Rattle.pc_box.specs.Boxes.{Bounded, Box, join_of, rows_of}
use Rattle.pc_box.specs.Forward.{after_of}

abbrev pub ends_of : Interval → List (Option ℤ)
ends_of i = i.least ∷ i.greatest ∷ []

-- the empty box is nothing; any other has its hint, and then the ends of its intervals
abbrev pub view_of : Box → View
view_of None = None
view_of (Some b) = Some ((Some (pos b.hint) ∷ []) ∷ map ends_of b.intervals)

-- ---- the box of a view

abbrev pub interval_of : List (Option ℤ) → Interval
interval_of [] = free
interval_of (m ∷ []) = free
interval_of (m ∷ n ∷ more) = record { least = m; greatest = n }

abbrev pub number_of : Option ℤ → ℕ
number_of None = 0
number_of (Some (pos n)) = n
number_of (Some (negsuc n)) = 0

abbrev pub hint_of : List (Option ℤ) → ℕ
hint_of [] = 0
hint_of (n ∷ more) = number_of n

abbrev pub bounds_of : List (List (Option ℤ)) → Bounded
bounds_of [] = record { hint = 0; intervals = [] }
bounds_of (hint ∷ lists) = record { hint = hint_of hint; intervals = map interval_of lists }

abbrev pub box_of : View → Box
box_of None = None
box_of (Some lists) = Some (bounds_of lists)

-- no bounds
abbrev pub boundless : ℕ → Box
boundless variables = Some (record { hint = variables; intervals = [] })

-- what the calls do to views
abbrev pub box_says : Relations
box_says = record {
  everything = λ n v. v ≡ view_of (boundless n);
  nothing = λ n v. v ≡ None;
  after = λ v e w. w ≡ view_of (after_of e (box_of v));
  join = λ u v w. w ≡ view_of (join_of (box_of u) (box_of v));
  rows = λ v rows. rows ≡ rows_of (box_of v);
}
