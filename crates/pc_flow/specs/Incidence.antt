-- The edges at a point, and their numbers.
use Rattle.std.specs.Prelude.{◌≡◌, ◌==◌, ℕ, ◌+◌, ◌<◌, Bool, if◌then◌else◌, List, [], ◌∷◌, length, filter, replicate, slice_get, Some}
use Rattle.pc_flow.specs.declared.incidence.End.{End}
use Rattle.pc_flow.specs.declared.incidence.End.TheVariants.{Source, Target}
use Rattle.pc_flow.specs.declared.point.PointInfo.{PointInfo}
use Rattle.pc_flow.specs.Arc.{Arc}

-- the numbers of the items that a test picks, in order, where the first item has number n
abbrev pub numbers : {A : Type 0} → (A → Bool) → ℕ → List A → List ℕ
numbers test n [] = []
numbers test n (x ∷ xs) = if test x then n ∷ numbers test (n + 1) xs else numbers test (n + 1) xs

-- the edges that leave point p, in order, and their numbers
abbrev pub leaving : ℕ → List Arc → List Arc
leaving p edges = filter (λ e. e.from == p) edges

abbrev pub numbers_leaving : ℕ → List Arc → List ℕ
numbers_leaving p edges = numbers (λ e. e.from == p) 0 edges

-- the edges that enter it, and their numbers
abbrev pub entering : ℕ → List Arc → List Arc
entering p edges = filter (λ e. e.to == p) edges

abbrev pub numbers_entering : ℕ → List Arc → List ℕ
numbers_entering p edges = numbers (λ e. e.to == p) 0 edges

-- the point at an end of an edge
abbrev pub point_at : End → Arc → ℕ
point_at Source e = e.from
point_at Target e = e.to

-- no numbers at any of so many points
abbrev pub HasNone : ℕ → List (List ℕ) → Type 0
HasNone points all = all ≡ replicate points []

-- for each of so many points the numbers of the edges that have it at that end
pub record AreNumbers (end : End) (points : ℕ) (edges : List Arc) (all : List (List ℕ)) : Type 0 where
  pub long : length all ≡ points
  pub each : (p : ℕ) → p < points → slice_get all p ≡ Some (numbers (λ e. point_at end e == p) 0 edges)

-- the numbers of the edges that leave and that enter each of the points
pub record AreListed (points : List PointInfo) (edges : List Arc) (leaves enters : List (List ℕ)) : Type 0 where
  pub leaving : AreNumbers Source (length points) edges leaves
  pub entering : AreNumbers Target (length points) edges enters

-- the edges at these numbers are those, one for one
abbrev pub AreAt : List Arc → List ℕ → List Arc → Type 0
AreAt edges [] [] = Unit {0}
AreAt edges [] (e ∷ some) = ⊥
AreAt edges (i ∷ is) [] = ⊥
AreAt edges (i ∷ is) (e ∷ some) = (slice_get edges i ≡ Some e) × AreAt edges is some

-- the numbers at a point are those of the edges at it
pub record NumbersTell (edges : List Arc) (p : ℕ) : Type 0 where
  pub leaving : AreAt edges (numbers_leaving p edges) (leaving p edges)
  pub entering : AreAt edges (numbers_entering p edges) (entering p edges)

abbrev pub NumbersAreTheirs : Type 0
NumbersAreTheirs = (edges : List Arc) (p : ℕ) → NumbersTell edges p
