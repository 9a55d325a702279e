-- Which status and which text answer the words, by what is held under the names, where nothing outside keeps the call from answering.
use Rattle.std.specs.Prelude.{◌≡◌, ℕ, List}
use Rattle.pc_ports.specs.Outside.{Holding}
use Rattle.pc_text.specs.Bytes.{Bytes}
use Rattle.pc_words.specs.Words.{Order}
use Rattle.pc_words.specs.Taken.{AreCommand, Orders}
use Rattle.pc_app.specs.declared.status.TheConstants.{USAGE}
use Rattle.pc_app.specs.Inputs.{OnInputs}
use Rattle.pc_app.specs.Causes.{AreLost}
use Rattle.pc_app.specs.Tasks.{Task}
use Rattle.pc_app.specs.Table.{task_of}

-- how a command answers
abbrev pub TaskAnswers : (Bytes → Holding) → Task → ℕ → Bytes → Type 0
TaskAnswers held task = OnInputs held task.inputs task.Says

-- how words are answered: those that order nothing by whatever is told of the use
pub data Answers (words : List Bytes) (held : Bytes → Holding) (status : ℕ) (text : Bytes) : Type 0 where
  Unknown : (AreCommand words → ⊥) → status ≡ USAGE → Answers words held status text
  Known : (order : Order) → Orders words order → TaskAnswers held (task_of order) status text → Answers words held status text

-- the words name a file that is lost
pub record LacksFile (words : List Bytes) (held : Bytes → Holding) (before now : ℕ) : Type 0 where
  pub order : Order
  pub named : Orders words order
  pub lost : AreLost held before now (task_of order).inputs
