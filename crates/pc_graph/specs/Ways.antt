-- The edges of a test: one for each way in which it may hold, and one for each way in which it may fail.
use Rattle.std.specs.Prelude.{List, [], ◌∷◌, Bool, true, false}
use Rattle.pc_rows.specs.Linear.{Linear, negation}
use Rattle.pc_program.specs.Forms.{is_unequal, rows_all}
use Rattle.pc_program.specs.declared.tree.Compare.{Compare}
use Rattle.pc_program.specs.declared.tree.Test.{Test}
use Rattle.pc_program.specs.declared.tree.Test.TheVariants as test

-- one way: all rows
abbrev pub together : List Linear → List (List Linear)
together rows = rows ∷ []

-- a way for each row: its negation
abbrev pub apart : List Linear → List (List Linear)
apart [] = []
apart (row ∷ rows) = (negation row ∷ []) ∷ apart rows

-- a lone `!=`
abbrev pub is_lone : List Compare → Bool
is_lone [] = false
is_lone (c ∷ []) = is_unequal c.op
is_lone (c ∷ d ∷ cs) = false

-- a conjunction holds where its rows are met; a lone `!=` holds where they are not
abbrev pub ways_of : Bool → List Linear → Bool → List (List Linear)
ways_of false rows true = together rows
ways_of false rows false = apart rows
ways_of true rows true = apart rows
ways_of true rows false = together rows

-- the rows of the true edges of a test, and of its false edges
abbrev pub ways : Test → Bool → List (List Linear)
ways test.Any holds = together []
ways (test.All cs) holds = ways_of (is_lone cs) (rows_all cs) holds
