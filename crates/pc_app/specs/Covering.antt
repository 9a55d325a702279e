-- Conditions on entry states that lose no promised guess.
use Rattle.std.specs.Prelude.{List}
use Rattle.pc_rows.specs.Linear.{Linear}
use Rattle.pc_lower.specs.declared.mode.Mode.{Mode}
use Rattle.pc_certify.specs.Inferring.{Covers}
use Rattle.pc_app.specs.Subjects.{Subject}

-- every state that meets a guess at the rows of the loops at the entry meets the condition, where the guess is promised to be
-- found: its numbers are tame, and what is owed at the heads of loops has multipliers and is asked modestly
abbrev pub CoversGuesses : Subject → List (List Linear) → Type 0
CoversGuesses subject condition = (m : Mode) → Covers subject.flow m condition
