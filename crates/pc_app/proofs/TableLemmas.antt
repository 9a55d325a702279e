-- Each command keeps the laws: one line a command.
use Rattle.pc_words.specs.Words.{Order, Infer, Certify, Replay, Run, Breach, Facts, Quick, Show, Trial}
use Rattle.pc_app.specs.Table.{task_of}
use Rattle.pc_app.proofs.KindLemmas.{source_decided}
use Rattle.pc_app.proofs.TaskLemmas.{Lawful, plain_is_lawful}
use Rattle.pc_app.proofs.ReplayLemmas.{replay_is_lawful}
use Rattle.pc_app.proofs.RunLemmas.{run_is_lawful}
use Rattle.pc_app.proofs.BreachLemmas.{breach_is_lawful}

pub lawful : (order : Order) → Lawful (task_of order)
lawful (Infer source) = plain_is_lawful _ _ source_decided
lawful (Certify source) = plain_is_lawful _ _ source_decided
lawful (Replay source certificate) = replay_is_lawful source certificate
lawful (Run source script) = run_is_lawful source script
lawful (Breach source script) = breach_is_lawful source script
lawful (Facts domain source) = plain_is_lawful _ _ source_decided
lawful (Quick domain source) = plain_is_lawful _ _ source_decided
lawful (Show source) = plain_is_lawful _ _ source_decided
lawful (Trial loops) = plain_is_lawful _ _ tt
