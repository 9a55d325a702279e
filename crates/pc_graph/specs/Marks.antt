-- What the heads and the marks of a program's graph say of its loops.
use Rattle.std.specs.Prelude.{◌≡◌, ℕ, ◌<◌, List, [], ◌∷◌, ◌++◌, Bool, true, false, Some, slice_get}
use Rattle.std.specs.List.{AllByRecursion as Each}
use Rattle.pc_text.specs.declared.place.Place.{Place}
use Rattle.pc_rows.specs.Linear.{Linear}
use Rattle.pc_program.specs.Forms.{rows_all}
use Rattle.pc_program.specs.declared.program.Program.{Program}
use Rattle.pc_program.specs.declared.tree.Compare.{Compare}
use Rattle.pc_program.specs.declared.tree.Test.{Test as Condition}
use Rattle.pc_program.specs.declared.tree.Stmt.{Stmt, roll-Stmt}
use Rattle.pc_program.specs.declared.tree.Stmt.TheOpen as stmt
use Rattle.pc_flow.specs.declared.point.PointInfo.{PointInfo}
use Rattle.pc_flow.specs.Arc.{Arc}
use Rattle.pc_flow.specs.Shape.{IsHead}
use Rattle.pc_graph.specs.Lowering.{graph}
use Rattle.pc_graph.specs.Rest.{rest}

-- an edge from the head of a loop: a body edge leads up, to where a round of the loop is still to be run; every other one leads
-- to what follows the loop
abbrev pub LeadsOn : (ℕ → List Stmt) → List Stmt → List Stmt → Bool → Arc → Type 0
LeadsOn rests round after true e = (e.from < e.to) × (rests e.to ≡ round)
LeadsOn rests round after false e = rests e.to ≡ after

-- a loop begins at point q: the statements still to be run begin with it, `tried` are the rows that it tries, and each edge from
-- the point leads into its body or past it, as its mark says
pub record IsLoopAt (rests : ℕ → List Stmt) (edges : List Arc) (q : ℕ) (tried : List Linear) : Type 0 where
  pub place : Place
  pub test : Condition
  pub hints : List Compare
  pub body : List Stmt
  pub after : List Stmt
  pub here : rests q ≡ roll-Stmt (stmt.While place test hints body) ∷ after
  pub tries : tried ≡ rows_all hints
  pub leads : Each (λ e. e.from ≡ q → LeadsOn rests (body ++ (roll-Stmt (stmt.While place test hints body) ∷ after)) after e.body e) edges

-- a loop begins at each head, each body edge leaves a head, and where no loop begins no rows are tried
pub record MarksLoops (p : Program) : Type 0 where
  pub heads : (q : ℕ) (point : PointInfo) → slice_get (graph p).points q ≡ Some point → point.head ≡ true → IsLoopAt (rest p) (graph p).edges q point.tried
  pub marked : Each (λ e. e.body ≡ true → IsHead (graph p).points e.from) (graph p).edges
  pub others : Each (λ point. point.head ≡ false → point.tried ≡ []) (graph p).points

abbrev pub LoopsAreMarked : Type 0
LoopsAreMarked = (p : Program) → MarksLoops p
