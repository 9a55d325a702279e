-- Rows as plain data.
use Rattle.std.specs.Prelude.{◌≡◌, ℤ, pos, List, [], ◌∷◌, map, Option, Some, None}
use Rattle.pc_rows.specs.Linear.{Linear}
use Rattle.pc_domain.specs.View.{View, BackRelations}
use Rattle.pc_back.specs.Needs.{Rowed, BeforeIs, BothIs, EntryIs}

-- a row has its constant, and then its coefficients
abbrev pub view_of_row : Linear → List (Option ℤ)
view_of_row r = Some r.constant ∷ map Some r.coefficients

abbrev pub view_of_rows : List Linear → View
view_of_rows rows = Some (map view_of_row rows)

abbrev pub view_of : Rowed → View
view_of None = None
view_of (Some rows) = view_of_rows rows

-- ---- the value of a view

abbrev pub number_of : Option ℤ → ℤ
number_of None = pos 0
number_of (Some n) = n

abbrev pub row_of : List (Option ℤ) → Linear
row_of [] = record { constant = pos 0; coefficients = [] }
row_of (n ∷ more) = record { constant = number_of n; coefficients = map number_of more }

abbrev pub rowed_of : View → Rowed
rowed_of None = None
rowed_of (Some lists) = Some (map row_of lists)

-- the view is that of a value of which P holds
abbrev pub IsViewOf : (Rowed → Type 0) → View → Type 0
IsViewOf P v = (need : Rowed) × (v ≡ view_of need) × P need

-- what the calls do to views
abbrev pub need_says : BackRelations
need_says = record {
  everything = λ n v. v ≡ view_of_rows [];
  nothing = λ n v. v ≡ None;
  before = λ v w u. IsViewOf (BeforeIs w (rowed_of v)) u;
  both = λ u v w. IsViewOf (BothIs (rowed_of u) (rowed_of v)) w;
  rows = λ v params rows. EntryIs (rowed_of v) params rows;
}
