-- Words that are read as a command are in a plain form.
use Rattle.std.proofs.Common.{◌≡◌, List, Option, Some, None, is_some, true, MatchOption}
use Rattle.pc_text.specs.Bytes.{Bytes}
use Rattle.pc_words.specs.declared.words.Command.{Command}
use Rattle.pc_words.specs.Words.{IsOrder, IsPlain, ordered}
use Rattle.pc_words.specs.CommandLine.{Accepts, written}
use Rattle.pc_words.specs.Taken.{IsTakenAs}

plain_of : (words : List Bytes) (found : Option Command) → MatchOption found (IsPlain words → ⊥) (λ c. IsOrder words (ordered c)) → is_some found ≡ true → IsPlain words
plain_of words None h e = absurd (cc)
plain_of words (Some c) h e = (ordered c, h)

-- what is written, and read as a command
pub taken_as : (words list : List Bytes) (found : Option Command) → Accepts words × (list ≡ written words)
    → MatchOption found (IsPlain list → ⊥) (λ c. IsOrder list (ordered c)) → is_some found ≡ true → IsTakenAs words list
taken_as words list found accepted h e = record { accepted = accepted.0; is_written = accepted.1; plain = plain_of list found h e }
