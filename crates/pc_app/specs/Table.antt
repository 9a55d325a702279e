-- What each form of words does: the one table of commands.
use Rattle.std.specs.Prelude.{List}
use Rattle.pc_text.specs.Bytes.{Bytes}
use Rattle.pc_words.specs.Words.{Order, Infer, Certify, Replay, Run, Breach, Facts, Quick, Show, Trial}
use Rattle.pc_app.specs.Inputs.{names_of}
use Rattle.pc_app.specs.Tasks.{Task}
use Rattle.pc_app.specs.Infer.{infer, certify}
use Rattle.pc_app.specs.Replay.{replay}
use Rattle.pc_app.specs.Run.{run}
use Rattle.pc_app.specs.Breach.{breach}
use Rattle.pc_app.specs.Facts.{facts}
use Rattle.pc_app.specs.Quick.{quick}
use Rattle.pc_app.specs.Show.{show}
use Rattle.pc_app.specs.Trial.{trial}

abbrev pub task_of : Order → Task
task_of (Infer source) = infer source
task_of (Certify source) = certify source
task_of (Replay source certificate) = replay source certificate
task_of (Run source script) = run source script
task_of (Breach source script) = breach source script
task_of (Facts domain source) = facts domain source
task_of (Quick domain source) = quick domain source
task_of (Show source) = show source
task_of (Trial loops) = trial loops

-- the files that a form of words names
abbrev pub files_of : Order → List Bytes
files_of order = names_of (task_of order).inputs
