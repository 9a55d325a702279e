-- The rows of an annotation at the entry, reduced.
use Rattle.std.specs.Prelude.{◌≡◌, ◌⊎◌, ◌≤◌, ◌↔◌, ℕ, true, List, length, Option, Some, None, Result, Ok, Err}
use Rattle.std.specs.List.{AllByRecursion}
use Rattle.pc_rows.specs.declared.rows.NoMemory.{NoMemory}
use Rattle.pc_rows.specs.declared.rows.TheConstants.{ROWS}
use Rattle.pc_rows.specs.Linear.{Linear, State, MeetsAll, IsOver}
use Rattle.pc_rows.specs.Modest.{IsModest}
use Rattle.pc_flow.specs.declared.what.What.TheVariants.{Enter}
use Rattle.pc_flow.specs.Annotation.{Annotation, rows_at}
use Rattle.pc_flow.specs.Flow.{Flow}
use Rattle.pc_flow.specs.Lists.{AnyOf}
use Rattle.pc_entail.specs.Reduction.{Thinned}
use Rattle.pc_rows.specs.Substitution.{never_row}
use Rattle.pc_entail.specs.Showing.{question, IsShown, AreMetSomewhere}
use Rattle.pc_certificate.specs.declared.certificate.Annotated.{Annotated}
use Rattle.pc_certify.specs.Causes.{RowFails}
use Rattle.pc_certify.specs.Claims.{IsProved}

-- some row that is owed at the entry, for the rows `next` at the start, is not found to be shown by the rows
abbrev pub IsNotRenewed : ℕ → List Linear → List Linear → Type 0
IsNotRenewed params next rows = AnyOf (RowFails true (Enter params) rows) next

-- rows without those that the others show; or the rows as they are, where those that are left are not found to show what is owed
abbrev pub IsReduced : ℕ → List Linear → List Linear → List Linear → Type 0
IsReduced params next rows answer =
    (left : List Linear) × Thinned rows left × ((answer ≡ left) ⊎ ((answer ≡ rows) × IsNotRenewed params next left))

-- the rows of an annotation at the entry, reduced
abbrev pub IsOfEntry : Flow → Annotation → List Linear → Type 0
IsOfEntry g a rows = IsReduced g.params (rows_at a 1) (rows_at a 0) rows

-- some rational point meets the rows, or it is not asked modestly whether they contradict each other
abbrev pub MayBeMet : List Linear → Type 0
MayBeMet rows = AreMetSomewhere rows ⊎ (IsModest (question rows never_row) → ⊥)

-- the rows of an alternative at the entry
pub record AreEntryRows (g : Flow) (a : Annotation) (rows : List Linear) : Type 0 where
  pub most : length rows ≤ ROWS
  pub over : AllByRecursion (IsOver g.params) rows
  pub reduced : IsOfEntry g a rows
  pub met : MayBeMet rows

-- no state meets the rows
abbrev pub IsMetNowhere : List Linear → Type 0
IsMetNowhere rows = (s : State) → MeetsAll s rows → ⊥

-- the rows of an annotation at the entry, reduced, contradict each other
abbrev pub IsContradictory : Flow → Annotation → Type 0
IsContradictory g a = (rows : List Linear) × IsOfEntry g a rows × IsShown rows never_row

-- an alternative has the rows of an annotation at every point but the entry
abbrev pub HasRows : Annotation → Annotated → Type 0
HasRows a b = (i : ℕ) → 1 ≤ i → rows_at b.rows i ≡ rows_at a i

-- an alternative with the rows of its entry reduced, as another one
pub record ReducesTo (g : Flow) (a b : Annotated) : Type 0 where
  pub proved : IsProved g b
  pub rows : IsOfEntry g a.rows (rows_at b.rows 0)
  pub states : (s : State) → MeetsAll s (rows_at a.rows 0) ↔ MeetsAll s (rows_at b.rows 0)
  pub others : HasRows a.rows b

-- an alternative, unless the rows of its entry are found to contradict each other
abbrev pub PossibleIs : Annotated → Result (Option Annotated) NoMemory → Type 0
PossibleIs a (Ok (Some b)) = (b ≡ a) × (length (rows_at a.rows 0) ≤ ROWS) × MayBeMet (rows_at a.rows 0)
PossibleIs a (Ok None) = IsShown (rows_at a.rows 0) never_row
PossibleIs a (Err e) = Unit {0}
