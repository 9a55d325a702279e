-- Lists of at most so many rows, and what is made of them.
use Rattle.std.specs.Prelude.{◌≡◌, ◌⊎◌, ℕ, ◌≤◌, nat_lt, if◌then◌else◌, ℤ, neg_ℤ, List, [], ◌∷◌, ◌++◌, length, slice_set, Result, Ok, Err}
use Rattle.pc_rows.specs.declared.number.Past.{Past}
use Rattle.pc_rows.specs.declared.rows.TheConstants.{ROWS}
use Rattle.pc_rows.specs.Linear.{Linear, State, Meets, MeetsAll, coefficient, sum_of, scaled_by}
use Rattle.pc_rows.specs.Joins.{with_row}

-- the rows, and r at the end where they do not cover it and have room for it
abbrev pub added : List Linear → Linear → List Linear
added rows r = if nat_lt (length rows) ROWS then with_row rows r else rows

-- a row that is out of range is left out
abbrev pub added_fitting : List Linear → Result Linear Past → List Linear
added_fitting rows (Ok r) = added rows r
added_fitting rows (Err e) = rows

-- and so each row of another list, in order
abbrev pub gathered : List Linear → List Linear → List Linear
gathered rows [] = rows
gathered rows (r ∷ more) = gathered (added rows r) more

-- ---- elimination

-- the pair of two rows: x goes, since each is taken as often as the other has x, one of them with the opposite sign
abbrev pub weighed : ℕ → Linear → Linear → Linear
weighed x p n = sum_of (scaled_by (neg_ℤ (coefficient n x)) p) (scaled_by (coefficient p x) n)

-- what is added to `old` is met, whatever value x has, where the state met the premises with its own value of x
abbrev pub Adds : ℕ → List Linear → List Linear → List Linear → Type 0
Adds x premises old new = (s : State) (n : ℤ) → MeetsAll s premises → MeetsAll (slice_set s x n) old → MeetsAll (slice_set s x n) new

-- rows from which x is eliminated: who meets the rows meets them whatever value x has
pub record Eliminates (x : ℕ) (rows out : List Linear) : Type 0 where
  pub met : Adds x rows [] out
  -- no row comes of none
  pub none : rows ≡ [] → out ≡ []

-- ---- rows that others show

-- the row goes to the end only if the others show it
abbrev pub KeepsShown : List Linear → Linear → List Linear → List Linear → Type 0
KeepsShown other r old new = (new ≡ old) ⊎ ((new ≡ old ++ r ∷ []) × ((s : State) → MeetsAll s other → Meets s r))

-- some rows of a list, each of which the other list shows
pub record IsKept (rows other kept : List Linear) : Type 0 where
  pub few : length kept ≤ length rows
  pub all : length kept ≡ length rows → kept ≡ rows
  pub own : (s : State) → MeetsAll s rows → MeetsAll s kept
  pub shown : (s : State) → MeetsAll s other → MeetsAll s kept
