-- Annotations whose rows are over the variables and not too many, and the heads of a graph.
use Rattle.std.specs.Prelude.{◌≡◌, ◌≤◌, ℕ, Bool, false, List, [], length, map, slice_get}
use Rattle.std.specs.List.{AllByRecursion as Each}
use Rattle.std.specs.Option.{option_map_or}
use Rattle.pc_rows.specs.Linear.{Linear, IsOver}
use Rattle.pc_rows.specs.declared.rows.TheConstants.{ROWS}
use Rattle.pc_flow.specs.declared.point.PointInfo.{PointInfo}

-- no rows at any point
abbrev pub no_rows : List PointInfo → List (List Linear)
no_rows points = map (λ point. []) points

-- no row has a variable from number n on
abbrev pub AreOver : ℕ → List (List Linear) → Type 0
AreOver n a = Each (Each (IsOver n)) a

-- no point has more rows than a list holds
abbrev pub AreFew : List (List Linear) → Type 0
AreFew a = Each (λ rows. length rows ≤ ROWS) a

-- whether point p is the head of a loop
abbrev pub is_head : List PointInfo → ℕ → Bool
is_head points p = option_map_or (λ point. point.head) (slice_get points p) false
