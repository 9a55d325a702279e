-- Values as plain data.
use Rattle.std.specs.Prelude.{◌≡◌, ℕ, ℤ, pos, negsuc, List, [], ◌∷◌, map, Option, Some, None}
use Rattle.pc_rows.specs.Linear.{Linear}
use Rattle.pc_domain.specs.View.{View, Relations}
use Rattle.pc_poly.specs.declared.polyhedron.Polyhedron.{Polyhedron}
use Rattle.pc_poly.specs.Polyhedra.{Value, boundless, rows_of, SaysAfter}

-- a row's constant, and then its coefficients
abbrev pub numbers_of : Linear → List (Option ℤ)
numbers_of r = Some r.constant ∷ map Some r.coefficients

-- nothing, or the hint, and then the numbers of the rows
abbrev pub poly_view : Value → View
poly_view None = None
poly_view (Some p) = Some ((Some (pos p.hint) ∷ []) ∷ map numbers_of p.rows)

-- ---- the value of a view

abbrev pub integer_of : Option ℤ → ℤ
integer_of None = pos 0
integer_of (Some n) = n

abbrev pub row_of : List (Option ℤ) → Linear
row_of [] = record { constant = pos 0; coefficients = [] }
row_of (n ∷ more) = record { constant = integer_of n; coefficients = map integer_of more }

abbrev pub count_of : ℤ → ℕ
count_of (pos n) = n
count_of (negsuc n) = 0

abbrev pub hint_of : List (Option ℤ) → ℕ
hint_of [] = 0
hint_of (n ∷ more) = count_of (integer_of n)

abbrev pub polyhedron_of : List (List (Option ℤ)) → Polyhedron
polyhedron_of [] = record { hint = 0; rows = [] }
polyhedron_of (hint ∷ lists) = record { hint = hint_of hint; rows = map row_of lists }

abbrev pub poly_of : View → Value
poly_of None = None
poly_of (Some lists) = Some (polyhedron_of lists)

-- the join with nothing is the other value
pub record SaysJoined (u v w : View) : Type 0 where
  pub left : u ≡ None → w ≡ v
  pub right : v ≡ None → w ≡ u

-- what the calls say of views; of assignments, of joins of two values that are not nothing, and of widenings they say nothing
abbrev pub poly_says : Relations
poly_says = record {
  everything = λ n v. v ≡ poly_view (boundless n);
  nothing = λ n v. v ≡ None;
  after = λ v e w. SaysAfter (poly_of v) e (poly_of w);
  join = SaysJoined;
  rows = λ v rows. rows ≡ rows_of (poly_of v);
}
