-- A view tells its value.
use Rattle.std.proofs.Common.{◌≡◌, ◌∙◌, ℕ, ℤ, sym, List, [], ◌∷◌, map, Some, None, refl, ap, subst}
use Rattle.pc_flow.specs.declared.what.What.{What}
use Rattle.pc_rows.specs.Linear.{Linear}
use Rattle.pc_back.specs.Needs.{Rowed, BeforeIs, BothIs, EntryIs}
use Rattle.pc_back.specs.Views.{number_of, row_of, view_of_row, view_of, rowed_of, need_says}

numbers_told : (cs : List ℤ) → map number_of (map Some cs) ≡ cs
numbers_told [] = refl
numbers_told (c ∷ cs) = ap (λ (z : List ℤ). c ∷ z) (numbers_told cs)

abbrev row : ℤ → List ℤ → Linear
row c cs = record { constant = c; coefficients = cs }

row_told : (r : Linear) → row_of (view_of_row r) ≡ r
row_told r = ap (row r.constant) (numbers_told r.coefficients)

rows_told : (rows : List Linear) → map row_of (map view_of_row rows) ≡ rows
rows_told [] = refl
rows_told (r ∷ rows) = ap (λ (z : Linear). z ∷ map row_of (map view_of_row rows)) (row_told r) ∙ ap (λ (z : List Linear). r ∷ z) (rows_told rows)

pub rowed_told : (need : Rowed) → rowed_of (view_of need) ≡ need
rowed_told None = refl
rowed_told (Some rows) = ap (λ (z : List Linear). Some z) (rows_told rows)

-- what the calls do to values, said of their views

pub before_view : (w : What) (need new : Rowed) → BeforeIs w need new → need_says.before (view_of need) w (view_of new)
before_view w need new is = (new, refl, subst (λ (z : Rowed). BeforeIs w z new) (sym (rowed_told need)) is)

pub both_view : (a b new : Rowed) → BothIs a b new → need_says.both (view_of a) (view_of b) (view_of new)
both_view a b new is =
    (new, refl, subst (λ (z : Rowed). BothIs z (rowed_of (view_of b)) new) (sym (rowed_told a)) (subst (λ (z : Rowed). BothIs a z new) (sym (rowed_told b)) is))

pub entry_view : (need : Rowed) (params : ℕ) (rows : List Linear) → EntryIs need params rows → need_says.rows (view_of need) params rows
entry_view need params rows is = subst (λ (z : Rowed). EntryIs z params rows) (sym (rowed_told need)) is
