-- A condition of one line: what a domain finds to be enough at the entry.
use Rattle.std.specs.Prelude.{◌≡◌, ◌↔◌, ℕ, ◌≤◌, pos, int_lt, Bool, false, ◌&&◌, if◌then◌else◌, List, [], ◌∷◌, length, map, slice_get, IsSomeAnd, All}
use Rattle.pc_text.specs.Bytes.{Bytes}
use Rattle.pc_rows.specs.Linear.{Linear, State, MeetsAll, MeetsSome, IsOver, first_of, is_number}
use Rattle.pc_condition.specs.Conditions.{condition_text}
use Rattle.pc_flow.specs.Flow.{Flow}
use Rattle.pc_flow.specs.Shape.{NoHeads}
use Rattle.pc_flow.specs.Walk.{IsEntry, GraphSafe}
use Rattle.pc_domain.specs.declared.backward.Backward.{Ghosts}
use Rattle.pc_domain.specs.Fold.{IsBackFold}
use Rattle.pc_domain.specs.View.{View}

-- the rows, where all variables from number `params` on are 0
abbrev pub over_parameters : ℕ → List Linear → List Linear
over_parameters params rows = map (first_of params) rows

abbrev pub is_never : Linear → Bool
is_never r = is_number r && int_lt r.constant (pos 0)

-- there is one row, and no state meets it
abbrev pub is_false : List Linear → Bool
is_false [] = false
is_false (r ∷ []) = is_never r
is_false (r ∷ s ∷ rows) = false

-- the alternatives of a condition of such rows
abbrev pub alternatives : List Linear → List (List Linear)
alternatives rows = if is_false rows then [] else rows ∷ []

-- what is said of rows of the entry on a graph without loops
abbrev pub AreFolded : {V : Type 0} → Ghosts V → Flow → List Linear → Type 0
AreFolded d g rows = (views : List View) × IsBackFold d.says g views × IsSomeAnd (slice_get views 0) (λ v. d.says.rows v g.params rows)

-- rows of the entry: only safe entry states meet them, and without loops they are what the domain says of a fold of the graph
pub record Suffice {V : Type 0} (d : Ghosts V) (g : Flow) (rows : List Linear) : Type 0 where
  pub safe : (s : State) → IsEntry g s → MeetsAll s rows → GraphSafe g s
  pub folded : NoHeads g.points → AreFolded d g rows

-- the text of the condition of such rows, cut to the parameters. It has at most one alternative, and an entry state meets it exactly where it meets
-- the rows
pub record IsQuick {V : Type 0} (d : Ghosts V) (g : Flow) (names : List Bytes) (text : Bytes) : Type 0 where
  pub rows : List Linear
  pub suffice : Suffice d g rows
  pub condition : List (List Linear)
  pub found : condition ≡ alternatives (over_parameters g.params rows)
  pub one : length condition ≤ 1
  pub parameters : All (All (IsOver g.params)) condition
  pub same : (s : State) → IsEntry g s → MeetsSome s condition ↔ MeetsAll s rows
  pub printed : text ≡ condition_text names condition
