-- What the reading of files gives: what they mean, or why the call goes no further.
use Rattle.std.specs.Prelude.{ℕ, List, Result, Ok, Err}
use Rattle.pc_ports.specs.Outside.{Holding}
use Rattle.pc_text.specs.Bytes.{Bytes}
use Rattle.pc_runner.specs.Scripts.{Choosing}
use Rattle.pc_runner.specs.declared.script.Script.{Script}
use Rattle.pc_app.specs.declared.answer.Answer.{Answer}
use Rattle.pc_app.specs.declared.answer.Stop.{Stop}
use Rattle.pc_app.specs.declared.answer.Stop.TheVariants as stop
use Rattle.pc_app.specs.Files.{Kind, MayMean, IsUnread, OnFile}
use Rattle.pc_app.specs.Kinds.{script_kind}
use Rattle.pc_app.specs.Causes.{IsLost, AreLost}
use Rattle.pc_app.specs.Tasks.{Task}
use Rattle.pc_app.specs.Answers.{TaskAnswers, Answers, LacksFile}

-- why a call goes no further: an answer, or a file that is lost; want of memory is free
abbrev pub Stops : (ℕ → Bytes → Type 0) → Type 0 → Stop → Type 0
Stops Refuses Lost (stop.Refused a) = Refuses a.status a.text
Stops Refuses Lost stop.Store = Lost
Stops Refuses Lost stop.Memory = Unit {0}

-- a file of this kind has this meaning, or the call goes no further
abbrev pub FileIs : (kind : Kind) → Holding → ℕ → ℕ → Result kind.Meaning Stop → Type 0
FileIs kind held before now (Ok m) = MayMean kind held m
FileIs kind held before now (Err e) = Stops (IsUnread kind held) (IsLost held before now) e

-- a script of the code, as what it means
abbrev pub chosen : Script → Choosing
chosen s = record { entry = s.entry; choices = s.choices }

abbrev pub ScriptIs : ℕ → Holding → ℕ → ℕ → Result Script Stop → Type 0
ScriptIs params held before now (Ok s) = FileIs (script_kind params) held before now (Ok (chosen s))
ScriptIs params held before now (Err e) = FileIs (script_kind params) held before now (Err e)

-- there is an answer, or a reason to go no further
abbrev pub Answered : (ℕ → Bytes → Type 0) → Type 0 → Result Answer Stop → Type 0
Answered A Lost (Ok a) = A a.status a.text
Answered A Lost (Err e) = Stops A Lost e

-- a command has its answer
pub record TaskIs (held : Bytes → Holding) (before now : ℕ) (task : Task) (r : Result Answer Stop) : Type 0 where
  pub answered : Answered (TaskAnswers held task) (AreLost held before now task.inputs) r

-- what a first file means has its answer, which a second file may keep it from
pub record RestIs (kind : Kind) (A : kind.Meaning → ℕ → Bytes → Type 0) (held : Holding) (before now : ℕ) (r : Result Answer Stop) : Type 0 where
  pub answered : Answered (OnFile kind A held) (IsLost held before now) r

-- words have their answer
abbrev pub WordsAre : List Bytes → (Bytes → Holding) → ℕ → ℕ → Result Answer Stop → Type 0
WordsAre words held before now r = Answered (Answers words held) (LacksFile words held before now) r
