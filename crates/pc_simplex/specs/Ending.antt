-- How the code's turns end.
use Rattle.std.specs.Prelude.{◌≡◌, ◌<◌, ℕ, suc, length, Option, Some, None}
use Rattle.pc_simplex.specs.declared.guess.Guess.{Guess}
use Rattle.pc_simplex.specs.declared.guess.Guess.TheVariants as guess
use Rattle.pc_simplex.specs.declared.turns.End.{End}
use Rattle.pc_simplex.specs.declared.turns.End.TheVariants.{Met, Stuck, GaveUp}
use Rattle.pc_simplex.specs.Values.{Table}
use Rattle.pc_simplex.specs.Found.{point_of, proof_of}
use Rattle.pc_simplex.specs.Turns.{turns}

-- what is found where the turns end so at a table
abbrev pub found_at : ℕ → Table → End → Guess
found_at premises t Met = guess.Point (point_of t)
found_at premises t (Stuck r) = guess.Shown (proof_of premises t r)
found_at premises t GaveUp = guess.GaveUp

-- a line at which the turns end is one of the table
abbrev pub IsLine : Table → End → Type 0
IsLine t Met = Unit {0}
IsLine t (Stuck r) = r < length t.lines
IsLine t GaveUp = Unit {0}

-- the turns of a table, with n pivots left, end so at a new table, whatever the number of premises
pub record EndIs (n : ℕ) (old : Table) (end : End) (new : Table) : Type 0 where
  pub found : (premises : ℕ) → turns premises n old ≡ found_at premises new end
  pub line : IsLine new end

-- one turn ends the search, or leads to a new table
abbrev pub TurnIs : Table → Option End → Table → Type 0
TurnIs old (Some end) new = (n : ℕ) → EndIs n old end new
TurnIs old None new = (premises n : ℕ) → turns premises (suc n) old ≡ turns premises n new
