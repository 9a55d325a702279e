-- How a question is settled: by the search, and by elimination where the search gives up.
use Rattle.std.specs.Prelude.{◌⊎◌, Result, Ok, Err}
use Rattle.pc_rows.specs.declared.rows.NoMemory.{NoMemory}
use Rattle.pc_rows.specs.Evidence.{System}
use Rattle.pc_elim.specs.declared.decision.Answer.{Answer}
use Rattle.pc_elim.specs.declared.decision.Answer.TheVariants.{Shown, Point, Unsettled}
use Rattle.pc_elim.specs.Deciding.{AnswerIs}
use Rattle.pc_simplex.specs.declared.guess.Guess.TheVariants as guess
use Rattle.pc_simplex.specs.Searching.{SearchIs}

-- the search finds nothing, or what it finds fails its check
abbrev pub GivesUp : System → Type 0
GivesUp s = SearchIs s (Ok guess.GaveUp)

-- what the search finds; and what elimination answers exactly where the search gives up, so that a question stays unsettled only where both fail
abbrev pub SettledIs : System → Result Answer NoMemory → Type 0
SettledIs s (Ok (Shown p)) = SearchIs s (Ok (guess.Shown p)) ⊎ (GivesUp s × AnswerIs s (Ok (Shown p)))
SettledIs s (Ok (Point p)) = SearchIs s (Ok (guess.Point p)) ⊎ (GivesUp s × AnswerIs s (Ok (Point p)))
SettledIs s (Ok Unsettled) = GivesUp s × AnswerIs s (Ok Unsettled)
SettledIs s (Err e) = Unit {0}
