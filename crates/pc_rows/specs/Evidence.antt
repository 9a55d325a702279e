-- Whether premises show a goal: the question, a proof that they do, and a point at which they do not.
use Rattle.std.specs.Prelude.{◌≡◌, ◌≢◌, ℕ, ◌<◌, ◌≤◌, ℤ, pos, ◌≤ℤ◌, List, [], ◌∷◌, length}
use Rattle.std.specs.List.{AllByRecursion}
use Rattle.pc_rows.specs.declared.proof.Part.{Part}
use Rattle.pc_rows.specs.declared.row.TheConstants.{VARIABLES}
use Rattle.pc_rows.specs.declared.system.TheConstants.{PREMISES}
use Rattle.pc_rows.specs.Linear.{Linear, IsRow, InRange, AllInRange}

-- do the premises show the goal
pub record System : Type 0 where
  pub premises : List Linear
  pub goal : Linear

-- a multiplier of the negated goal, and multipliers of premises, which are named by their index
pub record Proof : Type 0 where
  pub goal : ℤ
  pub parts : List Part

-- a rational point: a numerator for each variable in order, over one denominator
pub record Point : Type 0 where
  pub numerators : List ℤ
  pub denominator : ℤ

-- the index is above that of each part
abbrev pub IsAbove : ℕ → List Part → Type 0
IsAbove i ps = AllByRecursion (λ p. p.index < i) ps

-- each index is above those before it
abbrev pub IsRising : List Part → Type 0
IsRising [] = Unit {0}
IsRising (p ∷ ps) = AllByRecursion (λ q. p.index < q.index) ps × IsRising ps

-- a part says something: it names a premise that a system may have, with a multiplier other than 0
pub record IsPart (p : Part) : Type 0 where
  pub index : p.index < PREMISES
  pub in_range : InRange p.multiplier
  pub not_zero : p.multiplier ≢ pos 0

-- what every list of parts of the code keeps
pub record IsParts (ps : List Part) : Type 0 where
  pub rising : IsRising ps
  pub each : AllByRecursion IsPart ps

-- what every proof of the code keeps
pub record IsProof (p : Proof) : Type 0 where
  pub goal : InRange p.goal
  pub parts : IsParts p.parts

-- what every system of the code keeps
pub record IsSystem (s : System) : Type 0 where
  pub most : length s.premises ≤ PREMISES
  pub each : AllByRecursion IsRow s.premises
  pub goal : IsRow s.goal

-- what every point of the code keeps
pub record IsPoint (p : Point) : Type 0 where
  pub wide : length p.numerators ≡ VARIABLES
  pub in_range : AllInRange p.numerators
  pub denominator : InRange p.denominator
  pub positive : pos 1 ≤ℤ p.denominator
