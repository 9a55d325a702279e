-- Faults of the source, and answers that they may take the place of.
use Rattle.std.specs.Prelude.{◌≡◌, ◌≢◌, List, Result, Ok, Err}
use Rattle.pc_text.specs.Named.{Named}
use Rattle.pc_text.specs.Bytes.{Bytes}
use Rattle.pc_text.specs.declared.token.LexFault.{LexFault}
use Rattle.pc_text.specs.declared.token.LexFault.TheVariants as lex
use Rattle.pc_grammar.specs.declared.fault.ParseFault.{ParseFault}
use Rattle.pc_grammar.specs.declared.fault.ParseFault.TheVariants as parse
use Rattle.pc_program.specs.declared.normal.AffineFault.{AffineFault}
use Rattle.pc_program.specs.declared.normal.AffineFault.TheVariants as affine
use Rattle.pc_syntax.specs.declared.fault.SourceFault.{SourceFault}
use Rattle.pc_syntax.specs.declared.fault.SourceFault.TheVariants as fault

-- a fault of a normal form as a fault of the source
abbrev pub source_fault : AffineFault → SourceFault
source_fault (affine.NotAffine p) = fault.NotAffine p
source_fault (affine.Past p) = fault.FormPast p

-- a lexical fault, and a fault of the grammar: a program has as many blocks as it likes
abbrev pub of_tokens : LexFault → SourceFault
of_tokens (lex.BadByte p b) = fault.BadByte p b
of_tokens (lex.LiteralTooBig p) = fault.LiteralTooBig p
of_tokens (lex.NameTooLong p) = fault.NameTooLong p
of_tokens lex.NoMemory = fault.NoMemory

abbrev pub of_tree : ParseFault → SourceFault
of_tree (parse.Syntax p) = fault.Syntax p
of_tree (parse.TooDeep p) = fault.TooDeep p
of_tree (parse.TooLong p) = fault.TooLong p
of_tree (parse.TooManyProcesses p) = fault.Syntax p
of_tree parse.NoMemory = fault.NoMemory

-- a call answers what is wanted, unless memory fails
abbrev pub Gives : {A : Type 0} → Result A SourceFault → Result A SourceFault → Type 0
Gives (Ok x) wanted = wanted ≡ Ok x
Gives (Err f) wanted = f ≢ fault.NoMemory → wanted ≡ Err f

-- names are declared as is wanted, unless memory fails
abbrev pub Declares : {A : Type 0} → Result (Unit {0}) SourceFault → Result A SourceFault → A → Type 0
Declares (Ok u) wanted new = wanted ≡ Ok new
Declares (Err f) wanted new = f ≢ fault.NoMemory → wanted ≡ Err f

abbrev pub GivesNames : Result Named SourceFault → Result (List Bytes) SourceFault → Type 0
GivesNames (Ok x) wanted = wanted ≡ Ok x.names
GivesNames (Err f) wanted = f ≢ fault.NoMemory → wanted ≡ Err f
