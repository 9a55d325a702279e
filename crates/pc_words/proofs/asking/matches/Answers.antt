use Rattle.std.proofs.lemmas.Result.{IfOk-weaker}
use Rattle.pc_words.proofs.SimpleCommand.{subcommand_is, fails_by}
use Rattle.pc_words.proofs.asking.matches.Goals as goal

pub returns-clause-found : goal.returns-clause-found
returns-clause-found c =
    IfOk-weaker c.try_get_matches_from.result _ _ (λ m h. subcommand_is _ _ m c.in_ok-precond_command.ensures h) c.try_get_matches_from.ensures.matches

pub returns-clause-kinds : goal.returns-clause-kinds
returns-clause-kinds c =
    fails_by _ _ c.try_get_matches_from.result c.in_ok-precond_command.ensures c.try_get_matches_from.ensures.kinds
