-- Words in no plain form: the command that `clap` is asked about, which words it accepts for it, and the list of words that its
-- answer is written as.
use Rattle.std.specs.Prelude.{◌≡◌, List, [], ◌∷◌, ◌++◌, Option, Some, None, true, false, codes, if◌then◌else◌}
use Rattle.std.specs.Str.{bytes_eq}
use Rattle.clap.specs.Words.{Text, Rule, Row, Shape, App, new_rule, first_of, subcommand_of, fault_of}
use Rattle.clap.specs.Simple.{new_shape}
use Rattle.clap.specs.declared.builder.ArgAction.TheVariants.{SetTrue}

-- a required positional argument
abbrev pub positional : Text → Rule
positional id = record (new_rule id) { required = true; value_names = 1 }

-- the flag `--NAME`
abbrev pub flag : Text → Rule
flag name = record (new_rule name) { long = Some name; action = Some SetTrue }

-- the required option `--NAME VALUE`, or `--NAME=VALUE`
abbrev pub option : Text → Rule
option name = record (new_rule name) { long = Some name; required = true; value_names = 1 }

-- a subcommand with these arguments
abbrev pub subcommand : Text → List Rule → Shape
subcommand name rules = record (new_shape name) { rules = rules }

-- the first and the second positional argument
abbrev pub first : Rule
first = positional (codes "first")

abbrev pub second : Rule
second = positional (codes "second")

abbrev pub certificate : Rule
certificate = flag (codes "certificate")

abbrev pub domain : Rule
domain = option (codes "domain")

-- the command: its words begin with a subcommand, and none of them is the program's name
abbrev pub precond : App
precond = record {
  top = record (new_shape (codes "precond")) { no_binary_name = true; subcommand_required = true; is_leaf = false };
  subs = subcommand (codes "infer") (first ∷ certificate ∷ [])
      ∷ subcommand (codes "replay") (first ∷ second ∷ [])
      ∷ subcommand (codes "run") (first ∷ second ∷ [])
      ∷ subcommand (codes "breach") (first ∷ second ∷ [])
      ∷ subcommand (codes "facts") (first ∷ domain ∷ [])
      ∷ subcommand (codes "quick") (first ∷ domain ∷ [])
      ∷ subcommand (codes "show") (first ∷ [])
      ∷ subcommand (codes "trial") (first ∷ [])
      ∷ [];
}

-- `clap` accepts the words for the command: none of its faults comes
abbrev pub Accepts : List Text → Type 0
Accepts words = fault_of precond words ≡ []

-- what is written of the value of an argument, where it has one
abbrev pub as_word : Option Text → List Text
as_word None = []
as_word (Some value) = value ∷ []

abbrev pub as_flag : Option Text → List Text
as_flag None = []
as_flag (Some value) = if bytes_eq value (codes "true") then codes "--certificate" ∷ [] else []

abbrev pub as_option : Option Text → List Text
as_option None = []
as_option (Some value) = (codes "--domain=" ++ value) ∷ []

-- a subcommand's name and the values of its positional arguments
abbrev pub positionals_in : Text → List Row → List Text
positionals_in name rows = name ∷ [] ++ as_word (first_of (codes "first") rows) ++ as_word (first_of (codes "second") rows)

-- the words that are written of a subcommand's name and of what was found for its arguments
abbrev pub written_of : Text → List Row → List Text
written_of name rows =
    positionals_in name rows ++ as_flag (first_of (codes "certificate") rows) ++ as_option (first_of (codes "domain") rows)

abbrev pub written_by : Option (Text × List Row) → List Text
written_by None = []
written_by (Some found) = written_of found.0 found.1

-- the list of words that the answer of `clap` is written as
abbrev pub written : List Text → List Text
written words = written_by (subcommand_of precond words)
