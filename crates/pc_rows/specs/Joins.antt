-- Lists of rows: when a row is covered by rows, and the join of two lists.
use Rattle.std.specs.Prelude.{◌≡◌, ◌<◌, ◌≤◌, ◌&&◌, ◌||◌, ◌⊎◌, Bool, pos, ◌≤ℤ◌, int_le, List, [], ◌∷◌, ◌++◌, length, Result, Ok, Err, if◌then◌else◌}
use Rattle.std.specs.List.{list_any, AllByRecursion}
use Rattle.std.specs.Ordering.{int_eq}
use Rattle.std.specs.Cmp.Lexicographic.{pointwise}
use Rattle.pc_rows.specs.Linear.{Linear, IsRow, IsNumber, is_number}
use Rattle.pc_rows.specs.declared.rows.RowsFault.{RowsFault}
use Rattle.pc_rows.specs.declared.rows.RowsFault.TheVariants.{Full, NoMemory}
use Rattle.pc_rows.specs.declared.rows.TheConstants.{ROWS}

-- every state meets it by its form: it has no variable, and its constant is at least 0
abbrev pub IsAlways : Linear → Type 0
IsAlways r = IsNumber r × (pos 0 ≤ℤ r.constant)

-- the same coefficients, and a constant that is not greater
abbrev pub IsAtMost : Linear → Linear → Type 0
IsAtMost a r = (a.coefficients ≡ r.coefficients) × (a.constant ≤ℤ r.constant)

abbrev pub SomeIsAtMost : List Linear → Linear → Type 0
SomeIsAtMost [] r = ⊥
SomeIsAtMost (a ∷ rows) r = IsAtMost a r ⊎ SomeIsAtMost rows r

-- a row is covered where every state meets it by its form, or some row has the same coefficients and a constant that is not greater
abbrev pub IsCovered : Linear → List Linear → Type 0
IsCovered r rows = IsAlways r ⊎ SomeIsAtMost rows r

-- the same as tests
abbrev pub is_always : Linear → Bool
is_always r = is_number r && int_le (pos 0) r.constant

abbrev pub is_at_most : Linear → Linear → Bool
is_at_most a r = pointwise int_eq a.coefficients r.coefficients && int_le a.constant r.constant

abbrev pub is_covered : Linear → List Linear → Bool
is_covered r rows = is_always r || list_any (λ a. is_at_most a r) rows

-- the rows, and r at the end where they do not cover it
abbrev pub with_row : List Linear → Linear → List Linear
with_row rows r = if is_covered r rows then rows else (rows ++ r ∷ [])

-- the first list, and then each row of the second that is not covered by what stands before it
abbrev pub joined : List Linear → List Linear → List Linear
joined rows [] = rows
joined rows (r ∷ more) = joined (with_row rows r) more

-- what every list of rows of the code keeps
pub record IsRows (rows : List Linear) : Type 0 where
  pub most : length rows ≤ ROWS
  pub each : AllByRecursion IsRow rows

-- the row goes to the end; Full comes exactly where the list is full, and a refusal leaves it as it was
abbrev pub PushIs : List Linear → Linear → Result (Unit {0}) RowsFault → List Linear → Type 0
PushIs old r (Ok u) new = (length old < ROWS) × (new ≡ old ++ r ∷ [])
PushIs old r (Err Full) new = (length old ≡ ROWS) × (new ≡ old)
PushIs old r (Err NoMemory) new = (length old < ROWS) × (new ≡ old)

-- the row is added unless it is covered; Full comes exactly where there would be a row too many
abbrev pub AddIs : List Linear → Linear → Result (Unit {0}) RowsFault → List Linear → Type 0
AddIs old r (Ok u) new = (length new ≤ ROWS) × (new ≡ with_row old r)
AddIs old r (Err Full) new = ROWS < length (with_row old r)
AddIs old r (Err NoMemory) new = Unit {0}

-- the join; Full comes exactly where it has a row too many, whatever the memory
abbrev pub JoinIs : List Linear → List Linear → Result (List Linear) RowsFault → Type 0
JoinIs a b (Ok rows) = (length rows ≤ ROWS) × (rows ≡ joined a b)
JoinIs a b (Err Full) = ROWS < length (joined a b)
JoinIs a b (Err NoMemory) = length (joined a b) ≤ ROWS
