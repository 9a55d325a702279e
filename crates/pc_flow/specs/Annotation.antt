-- Annotations: a list of rows for each point of a graph, by the point's number.
use Rattle.std.specs.Prelude.{ℕ, List, [], slice_index_or}
use Rattle.pc_rows.specs.Linear.{Linear}

abbrev pub Annotation : Type 0
Annotation = List (List Linear)

-- the rows of point p
abbrev pub rows_at : Annotation → ℕ → List Linear
rows_at a p = slice_index_or a p []
