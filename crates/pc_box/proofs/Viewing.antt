-- A view tells its box.
use Rattle.std.proofs.Common.{◌≡◌, ◌∙◌, sym, ℕ, List, [], ◌∷◌, map, Some, None, refl, ap}
use Rattle.pc_box.specs.declared.interval.Interval.{Interval}
use Rattle.pc_flow.specs.declared.what.What.{What}
use Rattle.pc_flow.specs.declared.what.What.TheVariants.{Enter}
use Rattle.pc_box.specs.Boxes.{Box, join_of, rows_of}
use Rattle.pc_box.specs.Forward.{after_of}
use Rattle.pc_box.specs.Meeting.{both_of}
use Rattle.pc_box.specs.Backward.{before_of}
use Rattle.pc_box.specs.Views.{ends_of, interval_of, view_of, box_of}

intervals_told : (bs : List Interval) → map interval_of (map ends_of bs) ≡ bs
intervals_told [] = refl
intervals_told (b ∷ bs) = let r = intervals_told bs in ap (λ (z : List Interval). b ∷ z) r

abbrev bounded : ℕ → List Interval → Box
bounded hint bs = Some (record { hint = hint; intervals = bs })

pub box_view : (b : Box) → box_of (view_of b) ≡ b
box_view None = refl
box_view (Some b) = ap (bounded b.hint) (intervals_told b.intervals)

-- what the calls do to boxes, said of their views

pub after_view : (w : What) (b : Box) → view_of (after_of w b) ≡ view_of (after_of w (box_of (view_of b)))
after_view w b = ap (λ (z : Box). view_of (after_of w z)) (sym (box_view b))

pub join_view : (a b : Box) → view_of (join_of a b) ≡ view_of (join_of (box_of (view_of a)) (box_of (view_of b)))
join_view a b = ap (λ (z : Box). view_of (join_of z b)) (sym (box_view a)) ∙ ap (λ (z : Box). view_of (join_of (box_of (view_of a)) z)) (sym (box_view b))

pub rows_view : (b : Box) → rows_of b ≡ rows_of (box_of (view_of b))
rows_view b = ap rows_of (sym (box_view b))

-- and backwards

pub before_view : (w : What) (b : Box) → view_of (before_of w b) ≡ view_of (before_of w (box_of (view_of b)))
before_view w b = ap (λ (z : Box). view_of (before_of w z)) (sym (box_view b))

pub both_view : (a b : Box) → view_of (both_of a b) ≡ view_of (both_of (box_of (view_of a)) (box_of (view_of b)))
both_view a b = ap (λ (z : Box). view_of (both_of z b)) (sym (box_view a)) ∙ ap (λ (z : Box). view_of (both_of (box_of (view_of a)) z)) (sym (box_view b))

pub entry_view : (n : ℕ) (b : Box) → rows_of (before_of (Enter n) b) ≡ rows_of (before_of (Enter n) (box_of (view_of b)))
entry_view n b = ap (λ (z : Box). rows_of (before_of (Enter n) z)) (sym (box_view b))
