-- Annotations that are promised to be proved.
use Rattle.std.specs.Prelude.{◌≡◌, true, List}
use Rattle.std.specs.List.{AllByRecursion as Each}
use Rattle.pc_rows.specs.Linear.{Linear}
use Rattle.pc_rows.specs.Modest.{IsModest}
use Rattle.pc_flow.specs.Annotation.{Annotation, rows_at}
use Rattle.pc_flow.specs.Carry.{owes, premises}
use Rattle.pc_flow.specs.Flow.{Flow}
use Rattle.pc_entail.specs.Showing.{question, IsShown}
use Rattle.pc_lower.specs.Annotation.{is_head}

-- P holds of the premises and of each row that is owed, at each edge from a head
abbrev pub AtHeads : (List Linear → Linear → Type 0) → Flow → Annotation → Type 0
AtHeads P g a =
    Each (λ e. is_head g.points e.from ≡ true → Each (P (premises e.what (rows_at a e.from))) (owes e.what (rows_at a e.to))) g.edges

-- at the heads multipliers show what is owed
abbrev pub IsInductive : Flow → Annotation → Type 0
IsInductive g a = AtHeads IsShown g a

-- and it is modest to ask for them
abbrev pub IsSmall : Flow → Annotation → Type 0
IsSmall g a = AtHeads (λ rows r. IsModest (question rows r)) g a
