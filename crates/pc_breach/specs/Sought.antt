-- The statements that make a program other than straight, and its choices with an open end, in the order of the text.
use Rattle.std.specs.Prelude.{◌≡◌, ◌↔◌, true, List, [], ◌∷◌, ◌++◌, map, ℤ, Option, Some, None}
use Rattle.pc_text.specs.declared.place.Place.{Place}
use Rattle.pc_language.specs.declared.choice.Choice.{Choice}
use Rattle.pc_language.specs.Ends.{end_of}
use Rattle.pc_program.specs.Loops.{all_of, first}
use Rattle.pc_program.specs.declared.program.Program.{Program}
use Rattle.pc_program.specs.declared.tree.Test.{Test}
use Rattle.pc_program.specs.declared.tree.Test.TheVariants as test
use Rattle.pc_program.specs.declared.tree.Stmt.{Stmt, Stmt-F, fold-Stmt}
use Rattle.pc_program.specs.declared.tree.Stmt.TheOpen as stmt
use Rattle.pc_graph.specs.Lowering.{graph}
use Rattle.pc_graph.specs.Straight.{are_straight}
use Rattle.pc_breach.specs.declared.sought.Sought.{Sought}
use Rattle.pc_breach.specs.declared.sought.Sought.TheVariants.{Bend, OpenEnd}
use Rattle.pc_breach.specs.Graphs.{IsStraight}

abbrev pub open_between : Place → Option ℤ → Option ℤ → List Place
open_between place (Some lo) (Some hi) = []
open_between place (Some lo) None = place ∷ []
open_between place None hi = place ∷ []

-- the place of a choice with an open end
abbrev pub open_end : Option Choice → List Place
open_end None = []
open_end (Some choice) = open_between choice.place (end_of choice.lo) (end_of choice.hi)

abbrev pub in_choice : Sought → Option Choice → List Place
in_choice Bend choice = []
in_choice OpenEnd choice = open_end choice

-- the place of a `while` or an `assume`
abbrev pub in_place : Sought → Place → List Place
in_place Bend place = place ∷ []
in_place OpenEnd place = []

-- the place of an `if` with a test other than `*`
abbrev pub in_test : Sought → Place → Test → List Place
in_test sought place test.Any = []
in_test sought place (test.All cs) = in_place sought place

abbrev pub places_step : Sought → Stmt-F (List Place) → List Place
places_step sought (stmt.Set place v r) = in_choice sought r.choice
places_step sought (stmt.If place t xs ys) = in_test sought place t ++ (all_of xs ++ all_of ys)
places_step sought (stmt.While place t tried xs) = in_place sought place ++ all_of xs
places_step sought (stmt.Assert place cs) = []
places_step sought (stmt.Assume place cs) = in_place sought place

-- the places in a statement, in the order of the text
abbrev pub places : Sought → Stmt → List Place
places sought x = fold-Stmt (List Place) (places_step sought) x

abbrev pub places_of : Sought → List Stmt → List Place
places_of sought xs = all_of (map (places sought) xs)

-- the `while`s, the `assume`s and the `if`s with a test other than `*`
abbrev pub bends : Program → List Place
bends p = places_of Bend p.body

-- the choices with an open end
abbrev pub open_ends : Program → List Place
open_ends p = places_of OpenEnd p.body

-- a program is straight exactly where it has no bend, and its graph is fit for choices to be sought where it has no open end either
pub record PlacesTell (p : Program) : Type 0 where
  pub straight : (first (bends p) ≡ None) ↔ (are_straight p.body ≡ true)
  pub fit : first (bends p) ≡ None → first (open_ends p) ≡ None → IsStraight (graph p)

abbrev pub PlacesAreMeant : Type 0
PlacesAreMeant = (p : Program) → PlacesTell p
