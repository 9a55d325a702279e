-- What `clap` makes of some words: the list that its answer is written as, or the kinds of fault that may come.
use Rattle.std.proofs.Common.{◌≡◌, List, [], ◌∷◌, codes, refl}
use Rattle.clap.specs.Words.{Kinds, Text, fault_of}
use Rattle.clap.specs.declared.error.ErrorKind.TheVariants as kind
use Rattle.clap.proofs.OnLiterals.{clap_on_literals}
use Rattle.pc_words.specs.CommandLine.{Accepts, precond, written}

-- the words are accepted, and written as this list
abbrev Reads : List Text → List Text → Type 0
Reads words list = Accepts words × (written words ≡ list)

-- the words are refused, with these kinds
abbrev Refuses : List Text → Kinds → Type 0
Refuses words kinds = fault_of precond words ≡ kinds

flag_first : Reads (codes "infer" ∷ codes "--certificate" ∷ codes "F" ∷ []) (codes "infer" ∷ codes "F" ∷ codes "--certificate" ∷ [])
unfolding clap_on_literals
flag_first = (refl, refl)

two_files : Reads (codes "replay" ∷ codes "--" ∷ codes "F" ∷ codes "C" ∷ []) (codes "replay" ∷ codes "F" ∷ codes "C" ∷ [])
unfolding clap_on_literals
two_files = (refl, refl)

spaced : Reads (codes "facts" ∷ codes "--domain" ∷ codes "boxes" ∷ codes "F" ∷ []) (codes "facts" ∷ codes "F" ∷ codes "--domain=boxes" ∷ [])
unfolding clap_on_literals
spaced = (refl, refl)

-- no rule stands on values: these are written, and are no plain form
any_domain : Reads (codes "quick" ∷ codes "F" ∷ codes "--domain=" ∷ []) (codes "quick" ∷ codes "F" ∷ codes "--domain=" ∷ [])
unfolding clap_on_literals
any_domain = (refl, refl)

hyphens : Reads (codes "infer" ∷ codes "--" ∷ codes "-F" ∷ []) (codes "infer" ∷ codes "-F" ∷ [])
unfolding clap_on_literals
hyphens = (refl, refl)

any_number : Reads (codes "trial" ∷ codes "065" ∷ []) (codes "trial" ∷ codes "065" ∷ [])
unfolding clap_on_literals
any_number = (refl, refl)

domain_takes_next : Refuses (codes "facts" ∷ codes "--domain" ∷ codes "F" ∷ []) (kind.MissingRequiredArgument ∷ [])
unfolding clap_on_literals
domain_takes_next = refl

no_domain : Refuses (codes "facts" ∷ codes "F" ∷ []) (kind.MissingRequiredArgument ∷ [])
unfolding clap_on_literals
no_domain = refl

no_words : Refuses [] (kind.MissingSubcommand ∷ [])
unfolding clap_on_literals
no_words = refl

flag_twice : Refuses (codes "infer" ∷ codes "F" ∷ codes "--certificate" ∷ codes "--certificate" ∷ []) (kind.ArgumentConflict ∷ [])
unfolding clap_on_literals
flag_twice = refl

third_word : Refuses (codes "show" ∷ codes "F" ∷ codes "G" ∷ []) (kind.UnknownArgument ∷ [])
unfolding clap_on_literals
third_word = refl

no_subcommand : Refuses (codes "prove" ∷ codes "F" ∷ []) (kind.UnknownArgument ∷ kind.InvalidSubcommand ∷ [])
unfolding clap_on_literals
no_subcommand = refl

help : Refuses (codes "infer" ∷ codes "F" ∷ codes "--help" ∷ []) (kind.DisplayHelp ∷ [])
unfolding clap_on_literals
help = refl

-- but a file may have this name
help_as_file : Reads (codes "infer" ∷ codes "help" ∷ []) (codes "infer" ∷ codes "help" ∷ [])
unfolding clap_on_literals
help_as_file = (refl, refl)
