-- What the answers promise of walks and of runs.
use Rattle.std.specs.Prelude.{[], ◌≡◌, ◌≤◌, ℕ, ℤ, pos, List, ◌∷◌, ◌++◌, true, length}
use Rattle.std.specs.List.{AllByRecursion as Each, list_all}
use Rattle.pc_text.specs.Numerals.{is_in_range}
use Rattle.pc_text.specs.declared.place.Place.{Place}
use Rattle.pc_rows.specs.Linear.{State, MeetsAll}
use Rattle.pc_program.specs.declared.program.Program.{Program}
use Rattle.pc_program.specs.Machine.{Violated, run_of, Safe}
use Rattle.pc_runner.specs.declared.script.TheConstants.{CHOICES}
use Rattle.pc_flow.specs.Arc.{Arc, IsFit}
use Rattle.pc_flow.specs.Exact.{StraightEdge}
use Rattle.pc_flow.specs.Flow.{Flow}
use Rattle.pc_flow.specs.Lists.{In}
use Rattle.pc_flow.specs.Shape.{IsGraph}
use Rattle.pc_flow.specs.Walk.{Keeps, IsEntry, GraphSafe, entered}
use Rattle.pc_graph.specs.Choices.{Chosen}
use Rattle.pc_graph.specs.Lowering.{graph}
use Rattle.pc_graph.specs.Straight.{are_straight}
use Rattle.pc_breach.specs.Answers.{entry_rows, choices}
use Rattle.pc_breach.specs.Graphs.{IsClosed, IsStraight}

-- a walk from an entry state takes the choices but the last, which is a 0 at an assertion that leaves its last point and that its last state does not meet
abbrev pub ChoicesBreak : Flow → State → List ℤ → Type 0
ChoicesBreak g s cs =
    (es : List Arc) × (q : ℕ) × (t : State) × (before : List ℤ) ×
    Chosen g.edges 0 (entered g s) es q t before × (cs ≡ before ++ (pos 0 ∷ [])) ×
    ((e : Arc) × In e g.edges × (e.from ≡ q) × (Keeps e.what t → ⊥))

-- an entry state that meets the rows of the entry is safe, and from any other the choices break an assertion
pub record AnswersHold (g : Flow) (s : State) : Type 0 where
  pub safe : MeetsAll s (entry_rows g) → GraphSafe g s
  pub breaks : (MeetsAll s (entry_rows g) → ⊥) → ChoicesBreak g s (choices g s)

abbrev pub AnswersAreMeant : Type 0
AnswersAreMeant =
    (g : Flow) (s : State) → IsGraph g → IsStraight g → Each (StraightEdge (length g.points) g.variables) g.edges → IsEntry g s → AnswersHold g s

-- so it is with the runs of a program
pub record RunsHold (p : Program) (s : State) : Type 0 where
  pub safe : MeetsAll s (entry_rows (graph p)) → Safe p s
  pub violated : (MeetsAll s (entry_rows (graph p)) → ⊥) → (q : Place) × (run_of p s (choices (graph p) s) ≡ Violated q)

abbrev pub RunsAreMeant : Type 0
RunsAreMeant =
    (p : Program) (s : State) → are_straight p.body ≡ true → Each (λ e. IsClosed e.what) (graph p).edges → IsEntry (graph p) s → RunsHold p s

-- choices that a script holds: each in range, and not too many
abbrev pub IsScripted : List ℤ → Type 0
IsScripted cs = (list_all is_in_range cs ≡ true) × (length cs ≤ CHOICES)

-- the ends of the choices of a graph's edges are in range, and no walk of it is long
abbrev pub ChoicesAreFit : Type 0
ChoicesAreFit = (g : Flow) (s : State) → IsGraph g → Each (λ e. IsFit e.what) g.edges → IsScripted (choices g s)
