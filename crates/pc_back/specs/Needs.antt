-- Rows as a domain that goes back over edges: what a value is, and what the calls make of it.
use Rattle.std.specs.Prelude.{◌≡◌, ◌≤◌, ◌↔◌, ℕ, List, [], Option, Some, None, SomeIff, length}
use Rattle.std.specs.List.{AllByRecursion as Each}
use Rattle.pc_rows.specs.Linear.{Linear, State, MeetsAll, zero_from}
use Rattle.pc_rows.specs.Joins.{joined}
use Rattle.pc_rows.specs.declared.rows.TheConstants.{ROWS}
use Rattle.pc_flow.specs.declared.what.What.{What}
use Rattle.pc_lower.specs.Narrowing.{nothing}
use Rattle.pc_lower.specs.Need.{demanded}
use Rattle.pc_lower.specs.Operations.{Fits, edge_operations}

-- nothing, or rows
abbrev pub Rowed : Type 0
Rowed = Option (List Linear)

-- no state is in nothing; else those are that meet the rows
abbrev pub HasNeed : Rowed → State → Type 0
HasNeed None s = ⊥
HasNeed (Some rows) s = MeetsAll s rows

-- the rows; of nothing the one row -1
abbrev pub list_of : Rowed → List Linear
list_of None = nothing
list_of (Some rows) = rows

-- before an edge: the rows that it demands, joined from none, exactly where each operation that this takes can be carried out
abbrev pub BeforeIs : What → Rowed → Rowed → Type 0
BeforeIs w None new = new ≡ None
BeforeIs w (Some rows) new = SomeIff new (Each Fits (edge_operations w [] rows)) (joined [] (demanded w rows))

-- of two values: the join of their rows, exactly where it has no row too many
abbrev pub BothIs : Rowed → Rowed → Rowed → Type 0
BothIs None b new = new ≡ None
BothIs (Some a) None new = new ≡ None
BothIs (Some a) (Some b) new = SomeIff new (length (joined a b) ≤ ROWS) (joined a b)

-- at the entry, where the variables from number `params` on are 0: rows that the same states meet as the value's rows; of nothing the one row -1
abbrev pub EntryIs : Rowed → ℕ → List Linear → Type 0
EntryIs None params rows = rows ≡ nothing
EntryIs (Some all) params rows = (s : State) → zero_from params s ≡ s → MeetsAll s all ↔ MeetsAll s rows
