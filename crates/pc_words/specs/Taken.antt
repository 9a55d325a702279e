-- Which words order what, with those that are in no plain form.
use Rattle.std.specs.Prelude.{◌≡◌, ◌⊎◌, ℕ, List}
use Rattle.pc_text.specs.Bytes.{Bytes}
use Rattle.pc_words.specs.declared.domains.FactsDomain.{FactsDomain}
use Rattle.pc_words.specs.declared.domains.QuickDomain.{QuickDomain}
use Rattle.pc_words.specs.Words.{Order, Infer, Certify, Replay, Run, Breach, Facts, Quick, Show, Trial, IsOrder, IsPlain}
use Rattle.pc_words.specs.CommandLine.{Accepts, written}

-- `clap` takes the words as this order: it accepts them, and its answer is written as the plain form of the order
pub record IsTaken (words : List Bytes) (order : Order) : Type 0 where
  pub accepted : Accepts words
  pub spelled : IsOrder (written words) order

-- the words are taken, as this list of words
pub record IsTakenAs (words list : List Bytes) : Type 0 where
  pub accepted : Accepts words
  pub is_written : list ≡ written words
  pub plain : IsPlain list

-- the words order this: in its plain form, or, where they are in none, as `clap` takes them
abbrev pub Orders : List Bytes → Order → Type 0
Orders words order = IsOrder words order ⊎ ((IsPlain words → ⊥) × IsTaken words order)

-- words order one thing
abbrev pub WordsOrderOneThing : Type 0
WordsOrderOneThing = (words : List Bytes) (a b : Order) → Orders words a → Orders words b → b ≡ a

-- the words order something
abbrev pub AreCommand : List Bytes → Type 0
AreCommand words = (order : Order) × Orders words order

-- the words order what `infer F` does
abbrev pub IsInfer : List Bytes → Bytes → Type 0
IsInfer words source = Orders words (Infer source)

-- what `infer F --certificate` does
abbrev pub IsCertify : List Bytes → Bytes → Type 0
IsCertify words source = Orders words (Certify source)

-- what `replay F C` does
abbrev pub IsReplay : List Bytes → Bytes → Bytes → Type 0
IsReplay words source certificate = Orders words (Replay source certificate)

-- what `run F S` does
abbrev pub IsRun : List Bytes → Bytes → Bytes → Type 0
IsRun words source script = Orders words (Run source script)

-- what `breach F S` does
abbrev pub IsBreach : List Bytes → Bytes → Bytes → Type 0
IsBreach words source script = Orders words (Breach source script)

-- what `facts F --domain=D` does
abbrev pub IsFacts : List Bytes → FactsDomain → Bytes → Type 0
IsFacts words domain source = Orders words (Facts domain source)

-- what `quick F --domain=D` does
abbrev pub IsQuick : List Bytes → QuickDomain → Bytes → Type 0
IsQuick words domain source = Orders words (Quick domain source)

-- what `show F` does
abbrev pub IsShow : List Bytes → Bytes → Type 0
IsShow words source = Orders words (Show source)

-- what `trial N` does
abbrev pub IsTrial : List Bytes → ℕ → Type 0
IsTrial words loops = Orders words (Trial loops)
