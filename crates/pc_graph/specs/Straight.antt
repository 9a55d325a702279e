-- What graphs say of their programs, and of those without tests and loops.
use Rattle.std.specs.Prelude.{◌≡◌, ℤ, List, [], Bool, true, false, ◌&&◌, map, length}
use Rattle.std.specs.List.{AllByRecursion as Each}
use Rattle.pc_text.specs.declared.place.Place.{Place}
use Rattle.pc_rows.specs.Linear.{MeetsAll}
use Rattle.pc_program.specs.Loops.{whiles_of}
use Rattle.pc_program.specs.Machine.{Violated, run_of, Safe}
use Rattle.pc_program.specs.Sane.{all_true}
use Rattle.pc_rows.specs.Linear.{State}
use Rattle.pc_program.specs.declared.program.Program.{Program}
use Rattle.pc_program.specs.declared.tree.Test.{Test}
use Rattle.pc_program.specs.declared.tree.Test.TheVariants as test
use Rattle.pc_program.specs.declared.tree.Stmt.{Stmt, Stmt-F, fold-Stmt}
use Rattle.pc_program.specs.declared.tree.Stmt.TheOpen as stmt
use Rattle.pc_flow.specs.Exact.{PointRows, IsPaid, IsOwed, StraightEdge}
use Rattle.pc_graph.specs.Lowering.{graph}
use Rattle.pc_flow.specs.Shape.{IsGraph, NoSharedHead, ChecksAlone}
use Rattle.pc_flow.specs.Walk.{IsEntry, entered}

-- every graph of a program is one
abbrev pub GraphsAreKept : Type 0
GraphsAreKept = (p : Program) → IsGraph (graph p)

-- no two loops of a program share a head
abbrev pub LoopsHaveTheirHeads : Type 0
LoopsHaveTheirHeads = (p : Program) → NoSharedHead (graph p).edges

-- assertions are the only edges from their points
abbrev pub ChecksStandAlone : Type 0
ChecksStandAlone = (p : Program) → ChecksAlone (graph p)

abbrev pub is_any : Test → Bool
is_any test.Any = true
is_any (test.All cs) = false

abbrev pub straight_step : Stmt-F Bool → Bool
straight_step (stmt.Set p v r) = true
straight_step (stmt.If p t xs ys) = is_any t && (all_true xs && all_true ys)
straight_step (stmt.While p t tried xs) = false
straight_step (stmt.Assert p cs) = true
straight_step (stmt.Assume p cs) = false

-- a statement without loops, assumptions and tests but `*`
abbrev pub is_straight : Stmt → Bool
is_straight x = fold-Stmt Bool straight_step x

abbrev pub are_straight : List Stmt → Bool
are_straight xs = all_true (map is_straight xs)

-- such a program has no loops
abbrev pub StraightIsLoopFree : Type 0
StraightIsLoopFree = (p : Program) → are_straight p.body ≡ true → whiles_of p.body ≡ []

-- each edge of the graph of such a program leads up, and every state passes it unless it is an assertion
abbrev pub StraightGraphs : Type 0
StraightGraphs = (p : Program) → are_straight p.body ≡ true → Each (StraightEdge (length (graph p).points) (graph p).variables) (graph p).edges

-- the graph of a program without loops has no heads
abbrev pub LoopFreeGraphs : Type 0
LoopFreeGraphs = (p : Program) → whiles_of p.body ≡ [] → Each (λ point. point.head ≡ false) (graph p).points

-- a program whose graph has rows at each point that pay for each edge is safe from the entry states that meet those of the entry
abbrev pub PaidProgramsAreSafe : Type 0
PaidProgramsAreSafe =
    (p : Program) (a : PointRows) (s : State) → IsEntry (graph p) s → IsPaid (graph p) a → MeetsAll (entered (graph p) s) (a 0) → Safe p s

-- from an entry state that breaks a row that is owed at the entry some list of choices violates an assertion
abbrev pub OwedIsViolated : Type 0
OwedIsViolated =
    (p : Program) (a : PointRows) (s : State) → are_straight p.body ≡ true → IsEntry (graph p) s → IsOwed (graph p).edges a →
    (MeetsAll (entered (graph p) s) (a 0) → ⊥) → (cs : List ℤ) × (q : Place) × (run_of p s cs ≡ Violated q)
