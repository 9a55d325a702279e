-- What the builders of the command make.
use Rattle.std.specs.Borrow.{Bor}
use Rattle.std.specs.Prelude.{Option, option_map, ◌≡◌, List, [], ◌∷◌, ◌++◌, true, false, codes}
use Rattle.clap.specs.Words.{App, Rule, Shape, Text, app_of, rule_of}
use Rattle.clap.specs.Walk.{is_empty}
use Rattle.clap.specs.Simple.{new_shape}
use Rattle.clap.specs.declared.builder.Arg.{Arg}
use Rattle.clap.specs.declared.builder.Command.{Command}
use Rattle.clap.specs.declared.builder.Command.TheViews.{out-Command}
use Rattle.pc_words.specs.CommandLine.{certificate, domain, first, second, subcommand}

-- an argument by this rule, which is not global
abbrev pub IsArg : Arg → Rule → Type 0
IsArg a rule = (rule_of a ≡ rule) × (a.global ≡ false)

-- a command without subcommands that a parse reads as s, with no global argument
abbrev pub IsSubcommand : Command → Shape → Type 0
IsSubcommand c s = (app_of c ≡ record { top = s; subs = [] }) × ((out-Command c).has_globals ≡ false)

-- the command, with these subcommands
abbrev pub with_subcommands : List Shape → App
with_subcommands subs = record {
  top = record (new_shape (codes "precond")) { no_binary_name = true; subcommand_required = true; is_leaf = is_empty subs };
  subs = subs;
}

-- the subcommands that prove and replay
abbrev pub proving : List Shape
proving = subcommand (codes "infer") (first ∷ certificate ∷ []) ∷ subcommand (codes "replay") (first ∷ second ∷ []) ∷ []

-- these, and those that take a script
abbrev pub with_script : List Shape
with_script = proving ++ subcommand (codes "run") (first ∷ second ∷ []) ∷ subcommand (codes "breach") (first ∷ second ∷ []) ∷ []

-- these, and those with a domain
abbrev pub with_domain : List Shape
with_domain = with_script ++ subcommand (codes "facts") (first ∷ domain ∷ []) ∷ subcommand (codes "quick") (first ∷ domain ∷ []) ∷ []

-- the text behind a reference
abbrev pub text_in : Option (Bor Text) → Option Text
text_in = option_map (λ s. s.now)
