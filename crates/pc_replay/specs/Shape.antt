-- The shape that a certificate is to have.
use Rattle.std.specs.Prelude.{◌≡◌, ◌==◌, ◌&&◌, not, ℕ, Bool, List, length, drop, Option}
use Rattle.std.specs.List.{AllByRecursion, list_all, position_from}
use Rattle.pc_rows.specs.Linear.{Linear, IsOver, is_zero}
use Rattle.pc_flow.specs.Flow.{Flow}
use Rattle.pc_certificate.specs.declared.certificate.Annotated.{Annotated}
use Rattle.pc_certificate.specs.Certificate.{Certificate}

-- an alternative for so many points, edges and variables: rows for each point, proofs for each edge, and no row has a further variable
pub record IsShaped (points edges variables : ℕ) (a : Annotated) : Type 0 where
  pub rows : length a.rows ≡ points
  pub proofs : length a.proofs ≡ edges
  pub over : AllByRecursion (AllByRecursion (IsOver variables)) a.rows

-- a certificate for a graph: with its numbers of points, edges and variables, and each alternative has its lists
pub record HasShape (g : Flow) (c : Certificate) : Type 0 where
  pub points : c.points ≡ length g.points
  pub edges : c.edges ≡ length g.edges
  pub variables : c.variables ≡ g.variables
  pub each : AllByRecursion (IsShaped c.points c.edges c.variables) c.alternatives

-- the same as tests

abbrev pub is_over : ℕ → Linear → Bool
is_over n r = list_all is_zero (drop n r.coefficients)

abbrev pub are_over : ℕ → List Linear → Bool
are_over n rows = list_all (is_over n) rows

abbrev pub is_shaped : ℕ → ℕ → ℕ → Annotated → Bool
is_shaped points edges variables a = (length a.rows == points) && (length a.proofs == edges) && list_all (are_over variables) a.rows

abbrev pub has_shape : Flow → Certificate → Bool
has_shape g c =
    (c.points == length g.points) && (c.edges == length g.edges) && (c.variables == g.variables) &&
    list_all (is_shaped c.points c.edges c.variables) c.alternatives

-- the first row with a variable from number n on
abbrev pub first_beyond : ℕ → List Linear → Option ℕ
first_beyond n rows = position_from (λ r. not (is_over n r)) 0 rows
