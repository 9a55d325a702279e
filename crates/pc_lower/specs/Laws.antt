-- What needs promise.
use Rattle.std.specs.Prelude.{◌≡◌, true, false, List, ◌++◌, length, Result, Ok, Err}
use Rattle.std.specs.List.{AllByRecursion as Each}
use Rattle.pc_rows.specs.Linear.{Linear, IsOver}
use Rattle.pc_rows.specs.Joins.{is_covered}
use Rattle.pc_flow.specs.Arc.{Arc}
use Rattle.pc_flow.specs.Carry.{owes, test_rows}
use Rattle.pc_flow.specs.Exact.{PointRows, IsPaid, IsOwed}
use Rattle.pc_flow.specs.Flow.{Flow}
use Rattle.pc_flow.specs.Lists.{In}
use Rattle.pc_flow.specs.Shape.{NoHeads, IsGraph}
use Rattle.pc_lower.specs.declared.fault.CandidateFault.{CandidateFault}
use Rattle.pc_lower.specs.declared.fault.CandidateFault.TheVariants.{Past, Full, NoMemory}
use Rattle.pc_flow.specs.Annotation.{rows_at}
use Rattle.pc_lower.specs.Annotation.{AreOver, is_head}
use Rattle.pc_lower.specs.Need.{need, IsNeed}
use Rattle.pc_lower.specs.Operations.{Fits, operations}
use Rattle.pc_lower.specs.Tame.{IsTame}

-- each row that an edge owes is covered by the rows of the point that it leaves and those of its test together
abbrev pub IsCovered : PointRows → Arc → Type 0
IsCovered a e = Each (λ r. is_covered r (a e.from ++ test_rows e.what) ≡ true) (owes e.what (a e.to))

-- a list of rows for each point, over the graph's variables and at the entry over its parameters, that covers what the
-- edges from points that are no heads owe
pub record IsComplete (g : Flow) (a : List (List Linear)) : Type 0 where
  pub long : length a ≡ length g.points
  pub over : AreOver g.variables a
  pub entry : Each (IsOver g.params) (rows_at a 0)
  pub covers : (e : Arc) → In e g.edges → is_head g.points e.from ≡ false → IsCovered (rows_at a) e

-- the need is the one annotation that is meant
pub record IsTheNeed (g : Flow) (heads : List (List Linear)) : Type 0 where
  pub is : IsNeed g heads (need g heads)
  pub only : (a : List (List Linear)) → IsNeed g heads a → a ≡ need g heads

abbrev pub NeedIsMeant : Type 0
NeedIsMeant = (g : Flow) (heads : List (List Linear)) → IsGraph g → IsTheNeed g heads

abbrev pub AnnotationCovers : Type 0
AnnotationCovers =
    (g : Flow) (heads : List (List Linear)) → IsGraph g →
    (e : Arc) → In e g.edges → is_head g.points e.from ≡ false → IsCovered (rows_at (need g heads)) e

abbrev pub NeedIsComplete : Type 0
NeedIsComplete = (g : Flow) (heads : List (List Linear)) → IsGraph g → AreOver g.variables heads → IsComplete g (need g heads)

-- without loops the need pays every edge
abbrev pub NeedIsPaid : Type 0
NeedIsPaid = (g : Flow) (heads : List (List Linear)) → IsGraph g → NoHeads g.points → IsPaid g (rows_at (need g heads))

-- and each of its rows is owed
abbrev pub NeedIsOwed : Type 0
NeedIsOwed = (g : Flow) (heads : List (List Linear)) → IsGraph g → NoHeads g.points → IsOwed g.edges (rows_at (need g heads))

-- and it is the same whatever rows are given
abbrev pub NeedIsFree : Type 0
NeedIsFree = (g : Flow) (heads others : List (List Linear)) → NoHeads g.points → need g heads ≡ need g others

-- the need of a tame graph without loops is computed
abbrev pub TameNeedFits : Type 0
TameNeedFits = (g : Flow) (heads : List (List Linear)) → IsGraph g → NoHeads g.points → IsTame g → Each Fits (operations g heads)

-- the rows, or want of memory
abbrev pub IsNotRefused : {A : Type 0} → Result A CandidateFault → Type 0
IsNotRefused (Ok x) = Unit {0}
IsNotRefused (Err Past) = ⊥
IsNotRefused (Err Full) = ⊥
IsNotRefused (Err NoMemory) = Unit {0}
