-- Polyhedra, and what edges, joins and widenings make of them.
use Rattle.std.specs.Prelude.{◌≡◌, ◌↔◌, ℕ, ◌+◌, ◌≤◌, min, false, List, [], ◌∷◌, length, Option, Some, None, IsSomeAnd, Ok, pos}
use Rattle.std.specs.List.{AllByRecursion as Each}
use Rattle.std.proofs.Math.Dec.{lit≤}
use Rattle.std.proofs.Math.Nat.{min-le_left}
use Rattle.pc_rows.specs.declared.rows.TheConstants.{ROWS}
use Rattle.pc_rows.specs.Linear.{Linear, State, MeetsAll, coefficient}
use Rattle.pc_rows.specs.Substitution.{never_row}
use Rattle.pc_entail.specs.Showing.{ContradictoryIs}
use Rattle.pc_flow.specs.declared.what.What.{What}
use Rattle.pc_flow.specs.declared.what.What.TheVariants.{Enter, Test, Set, Check}
use Rattle.pc_domain.specs.declared.limits.TheConstants.{PARTS}
use Rattle.pc_poly.specs.declared.polyhedron.Polyhedron.{Polyhedron}
use Rattle.pc_poly.specs.Rows.{gathered}

-- a value: a polyhedron, or nothing
abbrev pub Value : Type 0
Value = Option Polyhedron

-- the states of a value are those that meet the rows; nothing has none
abbrev pub HasState : Value → State → Type 0
HasState None s = ⊥
HasState (Some p) s = MeetsAll s p.rows

-- no rows
abbrev pub boundless : ℕ → Value
boundless variables = Some (record { hint = variables; rows = [] })

-- the rows, and for nothing the row -1
abbrev pub rows_of : Value → List Linear
rows_of None = never_row ∷ []
rows_of (Some p) = p.rows

-- the most that there may be for nothing, and else the number of rows, of which no value has more
abbrev pub parts_of : Value → ℕ
parts_of None = PARTS
parts_of (Some p) = min PARTS (length p.rows)

pub few_parts : (v : Value) → parts_of v ≤ PARTS
few_parts None = lit≤ tt
few_parts (Some p) = min-le_left PARTS (length p.rows)

-- the rows of a test or an assertion are joined; nothing is left only where no state meets all
abbrev pub IsTested : Polyhedron → List Linear → Value → Type 0
IsTested p own None = (s : State) → MeetsAll s (gathered p.rows own) → ⊥
IsTested p own (Some q) = q.rows ≡ gathered p.rows own

-- the rows that are left are not found to contradict each other: a rational point meets them, or the question is not modest
abbrev pub IsCoherent : Value → Type 0
IsCoherent None = Unit {0}
IsCoherent (Some q) = ContradictoryIs q.rows (Ok false)

-- ---- what is said of a test

-- no row has the variable
abbrev pub AllLack : ℕ → List Linear → Type 0
AllLack v rows = Each (λ r. coefficient r v ≡ pos 0) rows

-- the states of `new` are those that meet both lists, with no more rows and no other variable
pub record IsBoth (old own new : List Linear) : Type 0 where
  pub states : (s : State) → MeetsAll s new ↔ (MeetsAll s old × MeetsAll s own)
  pub few : length new ≤ length old + length own
  pub over : (v : ℕ) → AllLack v old → AllLack v own → AllLack v new

abbrev pub SaysBoth : List Linear → List Linear → Value → Type 0
SaysBoth old own None = (s : State) → MeetsAll s old → MeetsAll s own → ⊥
SaysBoth old own (Some q) = IsBoth old own q.rows

-- nothing stays nothing; of others something is said where the two lists have at most ROWS rows together
abbrev pub SaysTested : Value → List Linear → Value → Type 0
SaysTested None own v = v ≡ None
SaysTested (Some p) own v = length p.rows + length own ≤ ROWS → SaysBoth p.rows own v

-- the entry adds no row where there is none and the hint is not greater than its parameters
abbrev pub SaysEntered : Value → ℕ → Value → Type 0
SaysEntered None params v = Unit {0}
SaysEntered (Some p) params v = p.hint ≤ params → p.rows ≡ [] → IsSomeAnd v (λ q. q.rows ≡ [])

abbrev pub SaysAfter : Value → What → Value → Type 0
SaysAfter v (Enter params) w = SaysEntered v params w
SaysAfter v (Test rows) w = SaysTested v rows w
SaysAfter v (Set x form lo hi) w = Unit {0}
SaysAfter v (Check rows) w = SaysTested v rows w

-- the join with nothing is the other value
pub record IsJoined (u v w : Value) : Type 0 where
  pub left : u ≡ None → w ≡ v
  pub right : v ≡ None → w ≡ u
