-- What has to be in range, and how many rows there may be, for a system to be settled.
use Rattle.std.specs.Prelude.{◌≡◌, ◌≤◌, ℕ, suc, zero, ℤ, ◌*ℤ◌, neg_ℤ, Bool, true, false, List, [], ◌∷◌, Option, Some, None, length}
use Rattle.std.specs.List.{AllByRecursion}
use Rattle.pc_rows.specs.Linear.{Linear, InRange, AllInRange, IsInRange, scale_list, sum_of, scaled_by}
use Rattle.pc_rows.specs.Evidence.{Point}
use Rattle.pc_rows.specs.Points.{NumeratorFits, over_multiple}
use Rattle.pc_elim.specs.declared.made.TheConstants.{LIMIT}
use Rattle.pc_elim.specs.Elimination.{Made, Bound, is_positive, factor, weigh, eliminated, level}
use Rattle.pc_elim.specs.Placing.{bound_of, turned, next_bound, greatest, placed}

-- b times the first row plus a times the second: each product and each sum
pub record RowFits (b : ℤ) (p : Linear) (a : ℤ) (n : Linear) : Type 0 where
  pub left : IsInRange (scaled_by b p)
  pub right : IsInRange (scaled_by a n)
  pub sum : IsInRange (sum_of (scaled_by b p) (scaled_by a n))

-- the same of lists of multipliers
pub record WeighFits (b : ℤ) (p : List ℤ) (a : ℤ) (n : List ℤ) : Type 0 where
  pub left : AllInRange (scale_list b p)
  pub right : AllInRange (scale_list a n)
  pub sum : AllInRange (weigh b p a n)

-- all that is computed for a combination
pub record CombineFits (k : ℕ) (p n : Made) : Type 0 where
  pub row : RowFits (neg_ℤ (factor n k)) p.row (factor p k) n.row
  pub multipliers : WeighFits (neg_ℤ (factor n k)) p.multipliers (factor p k) n.multipliers

-- only rows that are combined have to fit
abbrev pub PairFits : ℕ → Made → Made → Type 0
PairFits k p n = is_positive (neg_ℤ (factor n k)) ≡ true → CombineFits k p n

-- the combinations of a row with each other one, where it is combined at all
abbrev pub AllPairsFit : ℕ → List Made → Made → Type 0
AllPairsFit k all r = is_positive (factor r k) ≡ true → AllByRecursion (PairFits k r) all

-- all that is computed to eliminate variable k is in range, and there is room for the rows
abbrev pub EliminationFits : ℕ → List Made → Type 0
EliminationFits k rs = AllByRecursion (AllPairsFit k rs) rs × length (eliminated k rs) ≤ LIMIT

-- the first k variables one after another
abbrev pub LevelFits : ℕ → List Made → Type 0
LevelFits zero rs = Unit {0}
LevelFits (suc k) rs = LevelFits k rs × EliminationFits k (level k rs)

-- the cross products that compare a bound with the best so far
abbrev pub GreaterFits : Option Bound → Bound → Type 0
GreaterFits None b = Unit {0}
GreaterFits (Some a) b = InRange (a.number *ℤ b.weight) × InRange (b.number *ℤ a.weight)

-- the row's value at the point, and the comparison
pub record BoundFits (opposite : Bool) (k : ℕ) (p : Point) (best : Option Bound) (r : Made) : Type 0 where
  pub value : NumeratorFits r.row p
  pub greater : GreaterFits best (bound_of opposite k p r)

-- only rows that give a bound have to fit
abbrev pub NextFits : Bool → ℕ → Point → Option Bound → Made → Type 0
NextFits opposite k p best r = is_positive (turned opposite (factor r k)) ≡ true → BoundFits opposite k p best r

-- row by row
abbrev pub GreatestFits : Bool → ℕ → Point → Option Bound → List Made → Type 0
GreatestFits opposite k p best [] = Unit {0}
GreatestFits opposite k p best (r ∷ rs) = NextFits opposite k p best r × GreatestFits opposite k p (next_bound opposite k p best r) rs

-- the point over the weight of the bound
pub record AtFits (p : Point) (b : Bound) : Type 0 where
  pub numerators : AllInRange (over_multiple b.weight p).numerators
  pub denominator : InRange (over_multiple b.weight p).denominator

-- the bound that is taken, where there is one
abbrev pub TakenFits : Point → Option Bound → Type 0
TakenFits p None = Unit {0}
TakenFits p (Some b) = AtFits p b

-- upper bounds are looked at only where there is no lower bound
abbrev pub ByFits : ℕ → List Made → Point → Option Bound → Type 0
ByFits k rs p (Some lower) = AtFits p lower
ByFits k rs p None = GreatestFits true k p None rs × TakenFits p (greatest true k p None rs)

-- all that is computed to take a point back over variable k
abbrev pub PlacedFits : ℕ → List Made → Point → Type 0
PlacedFits k rs p = GreatestFits false k p None rs × ByFits k rs p (greatest false k p None rs)

-- over the last of the first k variables, and then over those before it
abbrev pub BackFits : ℕ → List Made → Point → Type 0
BackFits zero start p = Unit {0}
BackFits (suc k) start p = PlacedFits k (level k start) p × BackFits k start (placed k (level k start) p)
