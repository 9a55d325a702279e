-- The command is a simple one in the crate's own sense, so its answer is a function of the words.
use Rattle.std.proofs.Common.{◌≡◌, ◌∙◌, List, Result, true, refl, ap, subst}
use Rattle.clap.specs.Words.{App, Text, FailsBy, HasMatchesOf, fault_of, is_simple, is_simple_and_free, subcommand_of, subcommand_rows_of}
use Rattle.clap.specs.declared.parser.ArgMatches.{ArgMatches}
use Rattle.clap.specs.declared.Error.{Error}
use Rattle.clap.proofs.OnLiterals.{clap_on_literals}
use Rattle.pc_words.specs.CommandLine.{precond}

is_simple_command : is_simple precond ≡ true
unfolding clap_on_literals
is_simple_command = refl

is_free_command : is_simple_and_free precond ≡ true
unfolding clap_on_literals
is_free_command = refl

pub subcommand_is : (a : App) (words : List Text) (m : ArgMatches) → a ≡ precond → HasMatchesOf a words m
    → subcommand_rows_of m ≡ subcommand_of precond words
subcommand_is a words m e h = (h (ap is_simple e ∙ is_simple_command)).1 ∙ ap (λ x. subcommand_of x words) e

pub fails_by : {T : Type 0} (a : App) (words : List Text) (r : Result T Error) → a ≡ precond
    → (is_simple_and_free a ≡ true → FailsBy (fault_of a words) r)
    → FailsBy (fault_of precond words) r
fails_by a words r e h =
    subst (λ x. FailsBy (fault_of x words) r) e (h (ap is_simple_and_free e ∙ is_free_command))
