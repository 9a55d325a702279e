-- What a command is read as once a subcommand was added.
use Rattle.std.proofs.Common.{◌≡◌, ◌∙◌, ap, ap₂}
use Rattle.clap.specs.Words.{App, Shape, app_of, with_subcommand}
use Rattle.clap.specs.declared.builder.Command.{Command}
use Rattle.pc_words.specs.Building.{IsSubcommand}

pub added : (r old sub : Command) (a : App) (s : Shape)
    → app_of r ≡ with_subcommand (app_of old) (app_of sub).top
    → app_of old ≡ a → IsSubcommand sub s → app_of r ≡ with_subcommand a s
added r old sub a s e h g = e ∙ ap₂ with_subcommand h (ap (λ (x : App). x.top) g.0)
