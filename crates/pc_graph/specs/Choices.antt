-- The choices along a walk through the graph of a straight program, and the run that they drive.
use Rattle.std.specs.Prelude.{◌≡◌, ℕ, ℤ, pos, ◌+ℤ◌, List, [], ◌∷◌, ◌++◌, ◌⊎◌, true, slice_set, Option, Some, None}
use Rattle.pc_text.specs.declared.place.Place.{Place}
use Rattle.pc_language.specs.Ends.{end_of}
use Rattle.pc_rows.specs.Linear.{State, value, MeetsAll, zero_from}
use Rattle.pc_program.specs.Machine.{Going, Violated, run_of, clamped}
use Rattle.pc_program.specs.declared.program.Program.{Program}
use Rattle.pc_flow.specs.Arc.{Arc}
use Rattle.pc_flow.specs.declared.what.What.{What}
use Rattle.pc_flow.specs.declared.what.What.TheVariants.{Enter, Test, Set, Check}
use Rattle.pc_flow.specs.Incidence.{leaving}
use Rattle.pc_flow.specs.Lists.{In}
use Rattle.pc_flow.specs.Walk.{Keeps, Walk, IsEntry, entered}
use Rattle.pc_graph.specs.Lowering.{graph}
use Rattle.pc_graph.specs.Rest.{rest}
use Rattle.pc_graph.specs.Straight.{are_straight}

-- the choice at a test, of the edges that leave its point, in order: none where it is the only one, which leads to the end of
-- an `if`; else 1 at the first one, which leads into the first block, and 0 at a later one
abbrev pub Sides : List Arc → Arc → Option ℤ → Type 0
Sides [] e o = ⊥
Sides (f ∷ []) e o = o ≡ None
Sides (f ∷ g ∷ more) e o = ((e ≡ f) × (o ≡ Some (pos 1))) ⊎ (In e (g ∷ more) × (o ≡ Some (pos 0)))

-- what an edge asks and does leads from the state s to the state t by this choice, if it takes one: an assignment takes any,
-- and brings it between its ends
abbrev pub Takes : List Arc → Arc → What → State → State → Option ℤ → Type 0
Takes out e (Enter params) s t o = (o ≡ None) × (t ≡ zero_from params s)
Takes out e (Test rows) s t o = Sides out e o × MeetsAll s rows × (t ≡ s)
Takes out e (Set x form lo hi) s t o = (c : ℤ) × (o ≡ Some c) × (t ≡ slice_set s x (value form s +ℤ clamped (end_of lo) (end_of hi) c))
Takes out e (Check rows) s t o = (o ≡ Some (pos 0)) × MeetsAll s rows × (t ≡ s)

-- an edge of a graph with these edges leads from the state s to the state t by this choice, if it takes one
abbrev pub Chooses : List Arc → Arc → State → State → Option ℤ → Type 0
Chooses g e s t o = Takes (leaving e.from g) e e.what s t o

-- the choices, with that of one more edge, if it takes one
abbrev pub and_then : List ℤ → Option ℤ → List ℤ
and_then cs None = cs
and_then cs (Some c) = cs ++ (c ∷ [])

-- a walk from the point p in the state s to the point q in the state t by these choices, in order; its edges, the last one first
abbrev pub Chosen : List Arc → ℕ → State → List Arc → ℕ → State → List ℤ → Type 0
Chosen g p s [] q t cs = (q ≡ p) × (t ≡ s) × (cs ≡ [])
Chosen g p s (e ∷ es) q t cs =
    (q ≡ e.to) × In e g × ((u : State) × (o : Option ℤ) × (before : List ℤ) × Chooses g e u t o × (cs ≡ and_then before o) × Chosen g p s es e.from u before)

-- a walk by choices through the graph of a program from an entry state
abbrev pub ChosenWalk : Program → State → List Arc → ℕ → State → List ℤ → Type 0
ChosenWalk p s es q t cs = Chosen (graph p).edges 0 (entered (graph p) s) es q t cs

-- the choices of a walk drive the program to where the walk is; one more violates an assertion that leaves there and does not
-- hold; and every walk is by some choices
pub record Driven (p : Program) (s : State) : Type 0 where
  pub runs : (es : List Arc) (q : ℕ) (t : State) (cs : List ℤ) → ChosenWalk p s es q t cs → run_of p s cs ≡ Going (rest p q) t
  pub breaks : (es : List Arc) (q : ℕ) (t : State) (cs : List ℤ) → ChosenWalk p s es q t cs →
      (e : Arc) → In e (graph p).edges → e.from ≡ q → (Keeps e.what t → ⊥) → (place : Place) × (run_of p s (cs ++ (pos 0 ∷ [])) ≡ Violated place)
  pub walks : (es : List Arc) (q : ℕ) (t : State) (cs : List ℤ) → ChosenWalk p s es q t cs → Walk (graph p) s es q t
  pub chosen : (es : List Arc) (q : ℕ) (t : State) → Walk (graph p) s es q t → (cs : List ℤ) × ChosenWalk p s es q t cs

abbrev pub ChoicesDrive : Type 0
ChoicesDrive = (p : Program) (s : State) → are_straight p.body ≡ true → IsEntry (graph p) s → Driven p s
