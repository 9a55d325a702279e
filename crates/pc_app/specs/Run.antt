-- `run F S` prints the verdict on the run of the source F over the script S.
use Rattle.std.specs.Prelude.{◌≡◌, ◌⊎◌, ◌++◌, ℕ, ℤ, pos, List, [], ◌∷◌, length, codes}
use Rattle.pc_text.specs.declared.place.Place.{Place}
use Rattle.pc_text.specs.Numerals.{numeral}
use Rattle.pc_text.specs.Bytes.{Bytes}
use Rattle.pc_program.specs.declared.program.Program.{Program}
use Rattle.pc_runner.specs.Runs.{SaysOf}
use Rattle.pc_runner.specs.Scripts.{Choosing}
use Rattle.pc_runner.specs.declared.verdict.Verdict.{Verdict}
use Rattle.pc_runner.specs.declared.verdict.Verdict.TheVariants as verdict
use Rattle.pc_app.specs.declared.status.TheConstants.{DONE, FAILED, PAST}
use Rattle.pc_app.specs.Inputs.{TwoFiles}
use Rattle.pc_app.specs.Kinds.{source_kind, script_kind}
use Rattle.pc_app.specs.Tasks.{Task}
use Rattle.pc_app.specs.Texts.{place_text}

-- ---- a verdict as a status and a text

abbrev pub verdict_status : Verdict → ℕ
verdict_status (verdict.Violated n p) = FAILED
verdict_status (verdict.Blocked n p) = DONE
verdict_status (verdict.Ended n) = DONE
verdict_status (verdict.Going s) = DONE
verdict_status (verdict.Past n p) = PAST

-- a step by its number
abbrev pub step_text : ℕ → Bytes
step_text n = codes "step " ++ numeral (pos n)

abbrev pub step_at : ℕ → Place → Bytes
step_at n p = step_text n ++ codes " at " ++ place_text p

-- each variable's name and value, after a space
abbrev pub values_text : List Bytes → List ℤ → Bytes
values_text [] values = []
values_text (name ∷ names) [] = []
values_text (name ∷ names) (value ∷ values) = (codes " " ++ name ++ codes "=" ++ numeral value) ++ values_text names values

abbrev pub told : List Bytes → ℕ → Verdict → Bytes
told names choices (verdict.Violated n p) = codes "violated " ++ step_at n p
told names choices (verdict.Blocked n p) = codes "blocked " ++ step_at n p
told names choices (verdict.Ended n) = codes "ended " ++ step_text n
told names choices (verdict.Going s) = codes "going after " ++ numeral (pos choices) ++ values_text names s
told names choices (verdict.Past n p) = codes "past " ++ step_at n p

-- the line of a verdict on a run over so many choices of a program with these variables
abbrev pub verdict_text : List Bytes → ℕ → Verdict → Bytes
verdict_text names choices v = told names choices v ++ codes "\n"

-- ---- the command

-- the verdict on the machine's run of a program over the choices of a script
pub record RunSays (p : Program) (script : Choosing) (status : ℕ) (text : Bytes) : Type 0 where
  pub verdict : Verdict
  pub says : SaysOf p script.entry script.choices verdict
  pub status_is : status ≡ verdict_status verdict
  pub text_is : text ≡ verdict_text p.names.names (length script.choices) verdict

-- the run violates an assertion, and no value before left the range
pub record Violates (p : Program) (script : Choosing) : Type 0 where
  pub step : ℕ
  pub place : Place
  pub says : SaysOf p script.entry script.choices (verdict.Violated step place)

-- it needs a value that is not in range
pub record LeavesRange (p : Program) (script : Choosing) : Type 0 where
  pub step : ℕ
  pub place : Place
  pub says : SaysOf p script.entry script.choices (verdict.Past step place)

-- the statuses of a verdict
abbrev pub IsVerdict : ℕ → Type 0
IsVerdict status = (status ≡ DONE) ⊎ ((status ≡ FAILED) ⊎ (status ≡ PAST))

-- it fails where the run violates an assertion, and is past where the run needs a value that is not in range
abbrev pub run : Bytes → Bytes → Task
run source script = record {
  inputs = TwoFiles source_kind source (λ p. script_kind p.names.params) script;
  Says = λ given. RunSays given.0 given.1;
  Ends = IsVerdict;
  Fails = λ given. Violates given.0 given.1;
  IsPast = λ given. LeavesRange given.0 given.1;
}
