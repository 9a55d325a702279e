-- Graphs that are one chain of tests and assertions.
use Rattle.std.specs.Prelude.{◌≡◌, ℕ, ◌+◌, ◌≤◌, List, [], ◌∷◌, drop, length}
use Rattle.pc_rows.specs.declared.rows.TheConstants.{ROWS}
use Rattle.pc_rows.specs.Linear.{Linear}
use Rattle.pc_flow.specs.declared.what.What.{What}
use Rattle.pc_flow.specs.declared.what.What.TheVariants.{Enter, Test, Set, Check}
use Rattle.pc_flow.specs.Arc.{Arc}
use Rattle.pc_flow.specs.Flow.{Flow}

-- a test or an assertion
abbrev pub IsTest : What → Type 0
IsTest (Test rows) = Unit {0}
IsTest (Check rows) = Unit {0}
IsTest (Enter params) = ⊥
IsTest (Set x form lo hi) = ⊥

-- the rows that a state meets that passes it
abbrev pub tests_of : What → List Linear
tests_of (Test rows) = rows
tests_of (Check rows) = rows
tests_of (Enter params) = []
tests_of (Set x form lo hi) = []

-- each edge is a test or an assertion from a point to the next one, and the first leaves point n
abbrev pub Follows : ℕ → List Arc → Type 0
Follows n [] = Unit {0}
Follows n (e ∷ edges) = (e.from ≡ n) × (e.to ≡ n + 1) × IsTest e.what × Follows (n + 1) edges

-- how many rows the edges have
abbrev pub tests_count : List Arc → ℕ
tests_count [] = 0
tests_count (e ∷ edges) = length (tests_of e.what) + tests_count edges

-- the entry, where all variables are parameters, and then tests and assertions, one after the other, with at most ROWS rows together
pub record IsChain (g : Flow) : Type 0 where
  pub parameters : g.params ≡ g.variables
  pub follows : Follows 1 (drop 1 g.edges)
  pub few : tests_count (drop 1 g.edges) ≤ ROWS
