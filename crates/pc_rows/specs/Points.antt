-- Rows at rational points, and points that refute a system.
use Rattle.std.specs.Prelude.{ℤ, pos, ◌+ℤ◌, ◌*ℤ◌, ◌≤ℤ◌, List, [], ◌∷◌, slice_set, ℕ}
use Rattle.std.specs.List.{AllByRecursion}
use Rattle.pc_rows.specs.Linear.{Linear, InRange, dot, scale_list, negation}
use Rattle.pc_rows.specs.Evidence.{Point}

-- the value at the point, times the point's denominator
abbrev pub numerator : Linear → Point → ℤ
numerator r p = r.constant *ℤ p.denominator +ℤ dot r.coefficients p.numerators

-- a row is met at a point where its value there is at least 0, since the denominator is positive
abbrev pub MeetsAt : Point → Linear → Type 0
MeetsAt p r = pos 0 ≤ℤ numerator r p

abbrev pub AllMeetAt : Point → List Linear → Type 0
AllMeetAt p rows = AllByRecursion (MeetsAt p) rows

-- the point meets the premises and the negation of the goal
pub record Refutes (premises : List Linear) (goal : Linear) (p : Point) : Type 0 where
  pub positive : pos 1 ≤ℤ p.denominator
  pub meets_premises : AllMeetAt p premises
  pub meets_negation : MeetsAt p (negation goal)

-- the products by place, and their sums from the left
abbrev pub SumsFit : ℤ → List ℤ → List ℤ → Type 0
SumsFit sum [] xs = Unit {0}
SumsFit sum (c ∷ cs) [] = Unit {0}
SumsFit sum (c ∷ cs) (x ∷ xs) = InRange (c *ℤ x) × InRange (sum +ℤ c *ℤ x) × SumsFit (sum +ℤ c *ℤ x) cs xs

-- each product and each sum is in range, the constant first and then the variables in order
pub record NumeratorFits (r : Linear) (p : Point) : Type 0 where
  pub constant : InRange (r.constant *ℤ p.denominator)
  pub sums : SumsFit (r.constant *ℤ p.denominator) r.coefficients p.numerators

-- the same point over k times its denominator
abbrev pub over_multiple : ℤ → Point → Point
over_multiple k p = record { numerators = scale_list k p.numerators; denominator = k *ℤ p.denominator }

-- the point with another numerator at variable v
abbrev pub with_numerator : Point → ℕ → ℤ → Point
with_numerator p v n = record { numerators = slice_set p.numerators v n; denominator = p.denominator }
