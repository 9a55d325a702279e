-- Which program a text spells, and the fault of a text that spells none.
use Rattle.std.specs.Prelude.{Result}
use Rattle.pc_text.specs.Bytes.{Bytes}
use Rattle.pc_grammar.specs.Programs.{programs}
use Rattle.pc_program.specs.declared.program.Program.{Program}
use Rattle.pc_syntax.specs.declared.fault.SourceFault.{SourceFault}
use Rattle.pc_syntax.specs.Context.{Content, checked, content_of}
use Rattle.pc_syntax.specs.Texts as texts

-- a source is read as a program
abbrev pub of_programs : texts.Reading
of_programs = record { start = programs; Content = Content; checked = checked; Meaning = Program; content_of = content_of }

-- the bytes are this program: they have a parse tree, and the context rules make the program of it
abbrev pub Spells : Bytes → Program → Type 0
Spells src p = texts.Spells of_programs src p

-- the fault of the bytes: they have no tokens, or these no parse tree, or it breaks a context rule
abbrev pub Faulty : Bytes → SourceFault → Type 0
Faulty src f = texts.Faulty of_programs src f

-- what a text is: a program, or a fault
abbrev pub Means : Bytes → Result Program SourceFault → Type 0
Means src answer = texts.Means of_programs src answer

-- two answers are the same, programs apart from the proof that they keep their rules
abbrev pub Alike : Result Program SourceFault → Result Program SourceFault → Type 0
Alike a b = texts.Alike of_programs a b

-- the answer of a call is this one, unless memory fails
abbrev pub AlikeUnless : Result Program SourceFault → Result Program SourceFault → Type 0
AlikeUnless r answer = texts.AlikeUnless of_programs r answer

-- each text is a program or has a fault
abbrev pub EachTextHasOne : Type 0
EachTextHasOne = texts.EachTextHasOne of_programs

-- and not both, and no two programs, and no two faults
abbrev pub EachTextHasNoMore : Type 0
EachTextHasNoMore = texts.EachTextHasNoMore of_programs

-- a call answers what is wanted, unless memory fails
abbrev pub GivesProgram : Result Program SourceFault → Result Content SourceFault → Type 0
GivesProgram r wanted = texts.GivesMeaning of_programs r wanted
