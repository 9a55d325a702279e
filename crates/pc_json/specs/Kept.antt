-- What the parts of a certificate keep that is read: the rules on numbers, and the sizes that the certificate names.
use Rattle.std.specs.Prelude.{◌≡◌, ℕ, ◌≤◌, List, length}
use Rattle.std.specs.List.{AllByRecursion}
use Rattle.pc_rows.specs.declared.row.TheConstants.{VARIABLES}
use Rattle.pc_rows.specs.declared.rows.TheConstants.{ROWS}
use Rattle.pc_rows.specs.declared.system.TheConstants.{PREMISES}
use Rattle.pc_rows.specs.Linear.{Linear, IsOver, IsRow}
use Rattle.pc_rows.specs.Evidence.{Proof, IsProof}
use Rattle.pc_certificate.specs.declared.certificate.Annotated.{Annotated}
use Rattle.pc_certificate.specs.declared.certificate.TheConstants.{POINTS, ALTERNATIVES}
use Rattle.pc_certificate.specs.Certificate.{Certificate}
use Rattle.pc_language.specs.declared.limits.TheConstants.{EDGES}

-- a row over the first variables
abbrev pub IsRowOver : ℕ → Linear → Type 0
IsRowOver variables r = IsRow r × IsOver variables r

-- items whose number keeps a rule, and each of which keeps another
abbrev pub Each : {X : Type 0} → (ℕ → Type 0) → (X → Type 0) → List X → Type 0
Each R P xs = R (length xs) × AllByRecursion P xs

abbrev pub AtMost : ℕ → ℕ → Type 0
AtMost most n = n ≤ most

abbrev pub Exactly : ℕ → ℕ → Type 0
Exactly count n = n ≡ count

abbrev pub AreRowsOver : ℕ → List Linear → Type 0
AreRowsOver variables rows = Each (AtMost ROWS) (IsRowOver variables) rows

abbrev pub ArePoints : ℕ → ℕ → List (List Linear) → Type 0
ArePoints points variables all = Each (Exactly points) (AreRowsOver variables) all

abbrev pub AreProofs : List Proof → Type 0
AreProofs proofs = Each (AtMost PREMISES) IsProof proofs

abbrev pub AreEdges : ℕ → List (List Proof) → Type 0
AreEdges edges all = Each (Exactly edges) AreProofs all

abbrev pub IsAlternative : ℕ → ℕ → ℕ → Annotated → Type 0
IsAlternative points edges variables a = ArePoints points variables a.rows × AreEdges edges a.proofs

abbrev pub AreAlternatives : ℕ → ℕ → ℕ → List Annotated → Type 0
AreAlternatives points edges variables all = Each (AtMost ALTERNATIVES) (IsAlternative points edges variables) all

-- a certificate that keeps its sizes and all limits
pub record IsKept (c : Certificate) : Type 0 where
  pub points : c.points ≤ POINTS
  pub edges : c.edges ≤ EDGES
  pub variables : c.variables ≤ VARIABLES
  pub each : AreAlternatives c.points c.edges c.variables c.alternatives
