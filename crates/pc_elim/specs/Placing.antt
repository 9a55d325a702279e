-- Going back: a variable gets a value between its bounds at a point that gives the later variables theirs.
use Rattle.std.specs.Prelude.{ℕ, ℤ, ◌*ℤ◌, neg_ℤ, int_lt, Bool, true, false, List, [], ◌∷◌, Option, Some, None, if◌then◌else◌}
use Rattle.pc_rows.specs.Evidence.{Point}
use Rattle.pc_rows.specs.Points.{numerator, over_multiple, with_numerator}
use Rattle.pc_elim.specs.Elimination.{Made, Bound, is_positive, factor}

-- whether the first bound is below the second, by their cross products
abbrev pub is_below : Bound → Bound → Bool
is_below a b = int_lt (a.number *ℤ b.weight) (b.number *ℤ a.weight)

-- the greater of the two, and the first where they are equal
abbrev pub greater : Option Bound → Bound → Option Bound
greater None b = Some b
greater (Some a) b = if is_below a b then Some b else Some a

-- an upper bound of a variable is a lower bound of its opposite
abbrev pub turned : Bool → ℤ → ℤ
turned true z = neg_ℤ z
turned false z = z

-- the bound that a row gives to variable k, or to its opposite, where the point has 0 for it
abbrev pub bound_of : Bool → ℕ → Point → Made → Bound
bound_of opposite k p r = record { number = neg_ℤ (numerator r.row p); weight = turned opposite (factor r k) }

-- only a row with a factor above 0, turned, gives a bound
abbrev pub next_bound : Bool → ℕ → Point → Option Bound → Made → Option Bound
next_bound opposite k p best r = if is_positive (turned opposite (factor r k)) then greater best (bound_of opposite k p r) else best

-- the greatest of the best so far and of the bounds that the rows give
abbrev pub greatest : Bool → ℕ → Point → Option Bound → List Made → Option Bound
greatest opposite k p best [] = best
greatest opposite k p best (r ∷ rs) = greatest opposite k p (next_bound opposite k p best r) rs

-- the variable, or its opposite, at the bound
abbrev pub placed_at : Bool → ℕ → Point → Bound → Point
placed_at opposite k p b = with_numerator (over_multiple b.weight p) k (turned opposite b.number)

-- by the lower bound where there is one
abbrev pub placed_by : ℕ → Point → Option Bound → Option Bound → Point
placed_by k p (Some lower) upper = placed_at false k p lower
placed_by k p None (Some upper) = placed_at true k p upper
placed_by k p None None = p

-- the variable at its greatest lower bound, else at its least upper bound, else at 0
abbrev pub placed : ℕ → List Made → Point → Point
placed k rs p = placed_by k p (greatest false k p None rs) (greatest true k p None rs)
