-- Certificates, as contracts see them.
use Rattle.std.specs.Prelude.{ℕ, ◌≡◌, ◌<◌, ◌≤◌, ◌^◌, ◌⊎◌, List, [], ◌∷◌, length, map, All}
use Rattle.std.specs.List.{AllByRecursion}
use Rattle.pc_rows.specs.declared.row.TheConstants.{VARIABLES}
use Rattle.pc_rows.specs.declared.rows.TheConstants.{ROWS}
use Rattle.pc_rows.specs.declared.system.TheConstants.{PREMISES}
use Rattle.pc_rows.specs.Linear.{Linear, IsOver}
use Rattle.pc_rows.specs.Joins.{IsRows}
use Rattle.pc_rows.specs.Evidence.{Proof, IsProof}
use Rattle.pc_certificate.specs.declared.certificate.Annotated.{Annotated}
use Rattle.pc_certificate.specs.declared.certificate.TheConstants.{POINTS, ALTERNATIVES}
use Rattle.pc_language.specs.declared.limits.TheConstants.{EDGES}

-- a claim on a graph with so many points, edges and variables: alternatives, each with its rows and the proofs of them
pub record Certificate : Type 0 where
  pub points : ℕ
  pub edges : ℕ
  pub variables : ℕ
  pub alternatives : List Annotated

-- the rows of point 0
abbrev pub entry_rows : List (List Linear) → List Linear
entry_rows [] = []
entry_rows (rows ∷ more) = rows

-- what the certificate says of the entry: that the rows of point 0 of one of its alternatives suffice
abbrev pub condition_of : Certificate → List (List Linear)
condition_of c = map (λ a. entry_rows a.rows) c.alternatives

-- the rows of point 0 are there, and over the first n variables
abbrev pub SaysOf : ℕ → Annotated → Type 0
SaysOf n a = (0 < length a.rows) × All (IsOver n) (entry_rows a.rows)

-- rows for each point and proofs for each edge, over the variables, and no more proofs for an edge than a system has premises
pub record IsAnnotation (points : ℕ) (edges : ℕ) (variables : ℕ) (a : Annotated) : Type 0 where
  pub rows : length a.rows ≡ points
  pub proofs : length a.proofs ≡ edges
  pub over : AllByRecursion (AllByRecursion (IsOver variables)) a.rows
  pub few : AllByRecursion (λ proofs. length proofs ≤ PREMISES) a.proofs

-- a certificate that has a text: it has the sizes that it names, and is within the limits
pub record IsShowable (c : Certificate) : Type 0 where
  pub points : c.points ≤ POINTS
  pub edges : c.edges ≤ EDGES
  pub variables : c.variables ≤ VARIABLES
  pub few : length c.alternatives ≤ ALTERNATIVES
  pub each : AllByRecursion (IsAnnotation c.points c.edges c.variables) c.alternatives

-- what every alternative of the code keeps
pub record IsAnnotated (a : Annotated) : Type 0 where
  pub rows : AllByRecursion IsRows a.rows
  pub proofs : AllByRecursion (AllByRecursion IsProof) a.proofs

-- what every certificate of the code keeps
pub record IsCertificate (c : Certificate) : Type 0 where
  pub few : length c.alternatives < 2 ^ 32
  pub each : AllByRecursion IsAnnotated c.alternatives

-- ---- certificates whose edges do not have both many proofs and many premises

-- each part names one of so many premises
abbrev pub NamesPremises : ℕ → Proof → Type 0
NamesPremises count p = AllByRecursion (λ q. q.index < count) p.parts

-- there are no more proofs than a point may have rows, or they name no more premises: a test adds premises, and an assertion proofs
abbrev pub IsLean : List Proof → Type 0
IsLean proofs = (length proofs ≤ ROWS) ⊎ AllByRecursion (NamesPremises ROWS) proofs

abbrev pub AreLean : Annotated → Type 0
AreLean a = AllByRecursion IsLean a.proofs
