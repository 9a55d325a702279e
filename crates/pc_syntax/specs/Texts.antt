-- What a text means by a reading: a start symbol of the grammar, and context rules over its trees.
use Rattle.std.specs.Prelude.{◌≡◌, ◌≢◌, ◌⊎◌, List, length, Result, Ok, Err}
use Rattle.pc_text.specs.Bytes.{Bytes}
use Rattle.pc_text.specs.Places.{place_of}
use Rattle.pc_text.specs.Answers as tokens
use Rattle.pc_text.specs.Lex.{lex}
use Rattle.pc_text.specs.declared.token.Token.{Token}
use Rattle.pc_text.specs.declared.token.LexFault.{LexFault}
use Rattle.pc_grammar.specs.Symbols.{symbols_of}
use Rattle.pc_grammar.specs.Starts.{Start}
use Rattle.pc_grammar.specs.Parsing as grammar
use Rattle.pc_grammar.specs.declared.fault.ParseFault.{ParseFault}
use Rattle.pc_program.specs.Forms.{bind}
use Rattle.pc_syntax.specs.declared.fault.SourceFault.{SourceFault}
use Rattle.pc_syntax.specs.declared.fault.SourceFault.TheVariants.{NoMemory}
use Rattle.pc_syntax.specs.Faults.{of_tokens, of_tree}

pub record Reading : Type 1 where
  pub start : Start
  -- what the context rules make of a tree of a text, or the first of them that it breaks
  pub Content : Type 0
  pub checked : Bytes → start.Tree → Result Content SourceFault
  -- what a text may mean, and the content of it
  pub Meaning : Type 0
  pub content_of : Meaning → Content

-- the symbols of these tokens of the text have this answer of the grammar
abbrev pub HasTree : (S : Start) → Bytes → List Token → Result S.Tree ParseFault → Type 0
HasTree S src found answer = grammar.Means S (symbols_of src found) (place_of src (length src)) answer

-- the text has these tokens and this parse tree
pub record IsParsed (S : Start) (src : Bytes) (tree : S.Tree) : Type 0 where
  pub found : List Token
  pub tokens : tokens.Means src (Ok found)
  pub derives : HasTree S src found (Ok tree)

-- the bytes have no tokens
pub record NoTokens (src : Bytes) (f : SourceFault) : Type 0 where
  pub cause : LexFault
  pub means : tokens.Means src (Err cause)
  pub is : f ≡ of_tokens cause

-- they have tokens, and these no parse tree
pub record NoTree (S : Start) (src : Bytes) (f : SourceFault) : Type 0 where
  pub found : List Token
  pub tokens : tokens.Means src (Ok found)
  pub cause : ParseFault
  pub means : HasTree S src found (Err cause)
  pub is : f ≡ of_tree cause

-- they have a parse tree that breaks a context rule, and this is the first in the order of the walk
pub record Breaks (R : Reading) (src : Bytes) (f : SourceFault) : Type 0 where
  pub tree : R.start.Tree
  pub parsed : IsParsed R.start src tree
  pub broken : R.checked src tree ≡ Err f

-- the bytes mean this: they have a parse tree, of which the context rules make its content
pub record Spells (R : Reading) (src : Bytes) (p : R.Meaning) : Type 0 where
  pub tree : R.start.Tree
  pub parsed : IsParsed R.start src tree
  pub kept : R.checked src tree ≡ Ok (R.content_of p)

-- the fault of the bytes
abbrev pub Faulty : Reading → Bytes → SourceFault → Type 0
Faulty R src f = NoTokens src f ⊎ (NoTree R.start src f ⊎ Breaks R src f)

-- what a text is: a meaning, or a fault
abbrev pub Means : (R : Reading) → Bytes → Result R.Meaning SourceFault → Type 0
Means R src (Ok p) = Spells R src p
Means R src (Err f) = Faulty R src f

-- two answers are the same, meanings by their content
abbrev pub Alike : (R : Reading) → Result R.Meaning SourceFault → Result R.Meaning SourceFault → Type 0
Alike R (Ok p) (Ok q) = R.content_of p ≡ R.content_of q
Alike R (Ok p) (Err f) = ⊥
Alike R (Err f) (Ok p) = ⊥
Alike R (Err f) (Err g) = f ≡ g

-- the answer of a call is this one, unless memory fails
abbrev pub AlikeUnless : (R : Reading) → Result R.Meaning SourceFault → Result R.Meaning SourceFault → Type 0
AlikeUnless R (Ok p) answer = Alike R (Ok p) answer
AlikeUnless R (Err f) answer = f ≢ NoMemory → Alike R (Err f) answer

-- each text has a meaning or a fault
abbrev pub EachTextHasOne : Reading → Type 0
EachTextHasOne R = (src : Bytes) → (answer : Result R.Meaning SourceFault) × Means R src answer

-- and not both, and no two meanings, and no two faults
abbrev pub EachTextHasNoMore : Reading → Type 0
EachTextHasNoMore R = (src : Bytes) (a b : Result R.Meaning SourceFault) → Means R src a → Means R src b → Alike R a b

-- ---- the same as a function

abbrev pub with_fault : {A E F : Type 0} → (E → F) → Result A E → Result A F
with_fault g (Ok x) = Ok x
with_fault g (Err e) = Err (g e)

-- the parse tree of a text, or its fault
abbrev pub tree_of : (S : Start) → Bytes → Result S.Tree SourceFault
tree_of S src = bind (with_fault of_tokens (lex src)) (λ found. with_fault of_tree (grammar.parsed S (symbols_of src found) (place_of src (length src))))

-- the content of what a text means, or its fault
abbrev pub content_at : (R : Reading) → Bytes → Result R.Content SourceFault
content_at R src = bind (tree_of R.start src) (R.checked src)

-- a call answers what has this content, unless memory fails
abbrev pub GivesMeaning : (R : Reading) → Result R.Meaning SourceFault → Result R.Content SourceFault → Type 0
GivesMeaning R (Ok p) wanted = wanted ≡ Ok (R.content_of p)
GivesMeaning R (Err f) wanted = f ≢ NoMemory → wanted ≡ Err f
