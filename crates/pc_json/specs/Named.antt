-- The sizes that a certificate names.
use Rattle.std.specs.Prelude.{◌≤◌, [], ◌∷◌}
use Rattle.serde_json.specs.Data.{Data, array}
use Rattle.serde_json.specs.View.{view, items_of}
use Rattle.pc_rows.specs.declared.row.TheConstants.{VARIABLES}
use Rattle.pc_certificate.specs.declared.certificate.TheConstants.{POINTS}
use Rattle.pc_language.specs.declared.limits.TheConstants.{EDGES}
use Rattle.pc_json.specs.declared.members.Head.{Head}
use Rattle.pc_json.specs.declared.sizes.Sizes.{Sizes}
use Rattle.pc_json.specs.Values.{of_count}

-- sizes within the limits
pub record IsWithin (z : Sizes) : Type 0 where
  pub points : z.points ≤ POINTS
  pub edges : z.edges ≤ EDGES
  pub variables : z.variables ≤ VARIABLES

abbrev pub of_three : Data → Data → Data → Data
of_three points edges variables = array (items_of (points ∷ edges ∷ variables ∷ []))

-- the values of sizes together
abbrev pub of_sizes : Sizes → Data
of_sizes z = of_three (of_count z.points) (of_count z.edges) (of_count z.variables)

-- the values at the keys of the sizes
abbrev pub sizes_in : Head → Data
sizes_in h = of_three (view h.points) (view h.edges) (view h.variables)
