-- The place of each point of a program's graph: that of the statement that made it.
use Rattle.std.specs.Prelude.{◌≡◌, ℕ, ◌+◌, ◌<◌, List, [], ◌∷◌, ◌++◌, length, drop, IfSome, slice_get}
use Rattle.pc_text.specs.declared.place.Place.{Place}
use Rattle.pc_program.specs.declared.program.Program.{Program}
use Rattle.pc_program.specs.declared.tree.Stmt.{Stmt, Stmt-F, out-Stmt}
use Rattle.pc_program.specs.declared.tree.Stmt.TheOpen as stmt
use Rattle.pc_flow.specs.declared.point.PointInfo.{PointInfo}
use Rattle.pc_flow.specs.Arc.{Arc}
use Rattle.pc_flow.specs.Lists.{AnyOf}
use Rattle.pc_graph.specs.Lowering.{graph}
use Rattle.pc_graph.specs.Rest.{rest, rests_of}

-- the place of a statement's first token
abbrev pub first_place : Stmt-F Stmt → Place
first_place (stmt.Set place v r) = place
first_place (stmt.If place t xs ys) = place
first_place (stmt.While place t tried xs) = place
first_place (stmt.Assert place cs) = place
first_place (stmt.Assume place cs) = place

-- how many points the statements of a list make, each its own and those of its blocks
abbrev pub size : List Stmt → ℕ
size xs = length (rests_of xs [])

-- one of the points that a statement makes itself: how far it is from the first of them, and what is still to be run there
pub record Own : Type 0 where
  pub past : ℕ
  pub list : List Stmt

abbrev pub own : ℕ → List Stmt → Own
own i k = record { past = i; list = k }

-- those of the statement x before the list k: the begins of its blocks, and the point after it, which is the last of all that it makes
abbrev pub owned : Stmt → Stmt-F Stmt → List Stmt → List Own
owned x (stmt.Set place v r) k = own 0 k ∷ []
owned x (stmt.If place t xs ys) k = own 0 (xs ++ k) ∷ own (1 + size xs) (ys ++ k) ∷ own (2 + size xs + size ys) k ∷ []
owned x (stmt.While place t tried xs) k = own 0 (xs ++ (x ∷ k)) ∷ own (1 + size xs) k ∷ []
owned x (stmt.Assert place cs) k = own 0 k ∷ []
owned x (stmt.Assume place cs) k = own 0 k ∷ []

-- an edge leads from one point to another
abbrev pub LeadsTo : List Arc → ℕ → ℕ → Type 0
LeadsTo edges q r = AnyOf (λ e. (e.from ≡ q) × (e.to ≡ r)) edges

-- point m was made by a statement that is to be run at a lower point, and has that statement's place: an edge leads from there to the
-- first of the points that the statement makes, and m is one of those that it makes itself
pub record IsMade (edges : List Arc) (rests : ℕ → List Stmt) (m : ℕ) (place : Place) : Type 0 where
  pub source : ℕ
  pub first : ℕ
  pub statement : Stmt
  pub after : List Stmt
  pub lower : source < first
  pub here : rests source ≡ statement ∷ after
  pub leads : LeadsTo edges source first
  pub is : AnyOf (λ o. (m ≡ first + o.past) × (rests m ≡ o.list)) (owned statement (out-Stmt statement) after)
  pub has : place ≡ first_place (out-Stmt statement)

-- each of these points, which are numbered from m on
abbrev pub AreMade : List Arc → (ℕ → List Stmt) → ℕ → List PointInfo → Type 0
AreMade edges rests m [] = Unit {0}
AreMade edges rests m (point ∷ points) = IsMade edges rests m point.place × AreMade edges rests (m + 1) points

-- the entry and the start have the place of the program, and each other point that of the statement that made it
pub record PlacesTell (p : Program) : Type 0 where
  pub entry : IfSome (slice_get (graph p).points 0) (λ point. point.place ≡ p.place)
  pub start : IfSome (slice_get (graph p).points 1) (λ point. point.place ≡ p.place)
  pub others : AreMade (graph p).edges (rest p) 2 (drop 2 (graph p).points)

abbrev pub PlacesAreTheirs : Type 0
PlacesAreTheirs = (p : Program) → PlacesTell p
