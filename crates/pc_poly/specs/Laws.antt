-- What polyhedra promise beyond the laws of domains.
use Rattle.std.specs.Prelude.{◌≡◌, ◌↔◌, ℕ, List, [], ◌∷◌, length, slice_get, Some}
use Rattle.pc_rows.specs.Linear.{Linear, State, MeetsAll}
use Rattle.pc_rows.specs.Substitution.{never_row}
use Rattle.pc_flow.specs.Flow.{Flow}
use Rattle.pc_flow.specs.Shape.{IsGraph}
use Rattle.pc_flow.specs.Walk.{Reach}
use Rattle.pc_domain.specs.Fold.{IsFold}
use Rattle.pc_domain.specs.View.{View}
use Rattle.pc_poly.specs.Views.{poly_view, poly_of, poly_says}
use Rattle.pc_poly.specs.Polyhedra.{Value, HasState, rows_of}
use Rattle.pc_poly.specs.Chains.{IsChain}

-- a view tells its value
abbrev pub ViewsTell : Type 0
ViewsTell = (v : Value) → poly_of (poly_view v) ≡ v

-- a state is in a value exactly where it meets the value's list
abbrev pub ListIsMeant : Type 0
ListIsMeant = (v : Value) (s : State) → HasState v s ↔ MeetsAll s (rows_of v)

-- rows that tell exactly which entry states reach a point
pub record TellsReach (g : Flow) (p : ℕ) (rows : List Linear) : Type 0 where
  pub exact : (s : State) → length s ≡ g.params → MeetsAll s rows ↔ Reach g p s
  pub nothing : rows ≡ never_row ∷ [] → (s : State) → Reach g p s → ⊥

-- on a chain of tests, rows that are said of the view of a point in a fold tell which entry states reach it
abbrev pub ChainsAreExact : Type 0
ChainsAreExact =
    (g : Flow) (views : List View) (p : ℕ) (v : View) (rows : List Linear) → IsGraph g → IsChain g → IsFold poly_says g views →
    slice_get views p ≡ Some v → poly_says.rows v rows → TellsReach g p rows
