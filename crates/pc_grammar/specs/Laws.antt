-- What all that stands on parse trees cites of the grammar, for each start symbol.
use Rattle.std.specs.Prelude.{◌≡◌, Result}
use Rattle.pc_text.specs.declared.place.Place.{Place}
use Rattle.pc_grammar.specs.declared.fault.ParseFault.{ParseFault}
use Rattle.pc_grammar.specs.Combinators.{Text}
use Rattle.pc_grammar.specs.Starts.{Start, Derives}
use Rattle.pc_grammar.specs.Parsing.{Means, parsed}

-- symbols derive one tree at most
abbrev pub GrammarIsUnambiguous : Start → Type 0
GrammarIsUnambiguous S = (w : Text) (t u : S.Tree) → Derives S t w → Derives S u w → t ≡ u

-- whatever the symbols, they mean some answer
abbrev pub AnswersExist : Start → Type 0
AnswersExist S = (i : Text) (end : Place) → (a : Result S.Tree ParseFault) × Means S i end a

-- and no two
abbrev pub AnswersAreUnique : Start → Type 0
AnswersAreUnique S = (i : Text) (end : Place) (a b : Result S.Tree ParseFault) → Means S i end a → Means S i end b → a ≡ b

-- the function computes what is meant
abbrev pub ComputedIsMeant : Start → Type 0
ComputedIsMeant S = (i : Text) (end : Place) → Means S i end (parsed S i end)
