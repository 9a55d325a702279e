-- What the texts of programs are, by the function that reads them.
use Rattle.std.proofs.Common.{◌≡◌, refl, length, true, Result, Ok}
use Rattle.std.specs.Prelude.{IfErr, IfOk, ◌≢◌}
use Rattle.pc_text.specs.Bytes.{Bytes}
use Rattle.pc_grammar.specs.Symbols.{symbols_of}
use Rattle.pc_grammar.specs.Programs.{programs}
use Rattle.pc_grammar.specs.declared.tree.ProgramTree.{ProgramTree}
use Rattle.pc_grammar.proofs.Starts.{programs_lawful}
use Rattle.pc_program.specs.declared.program.Program.{Program}
use Rattle.pc_syntax.specs.declared.fault.SourceFault.{SourceFault}
use Rattle.pc_syntax.specs.declared.fault.SourceFault.TheVariants.{NoMemory}
use Rattle.pc_syntax.specs.Trees.{fit_tree}
use Rattle.pc_syntax.specs.Context.{Content, checked, content_of}
use Rattle.pc_syntax.specs.Texts.{IsParsed, tree_of, content_at}
use Rattle.pc_syntax.specs.Spelling.{of_programs, Spells, Faulty, Means, AlikeUnless, EachTextHasOne, EachTextHasNoMore, GivesProgram}
use Rattle.pc_syntax.proofs.SymbolFits.{symbols_fit}
use Rattle.pc_syntax.proofs.TreeFits.{derived_fits}
use Rattle.pc_syntax.proofs.TextLemmas as texts
use Rattle.pc_syntax.proofs.WalkedStmts.{walks_are_sane}

-- a tree of a text is fit for the walk
parsed_fits : (src : Bytes) (t : ProgramTree) → IsParsed programs src t → fit_tree (length src) t ≡ true
parsed_fits src t h = derived_fits (length src) t (symbols_of src h.found) h.derives.0 h.derives.1 (symbols_fit src h.found h.tokens)

pub tree_fits : (src : Bytes) (t : ProgramTree) → tree_of programs src ≡ Ok t → fit_tree (length src) t ≡ true
tree_fits src t e = parsed_fits src t (texts.tree_parsed programs programs_lawful src t e)

program_made : (src : Bytes) (t : ProgramTree) (c : Content) → IsParsed programs src t → checked src t ≡ Ok c → (p : Program) × (content_of p ≡ c)
program_made src t c h e = (record { place = c.place; names = c.names; body = c.body; sane = walks_are_sane src (length src) t c (parsed_fits src t h) e }, refl)

programs_are_lawful : texts.LawfulReading of_programs
programs_are_lawful = record { grammar = programs_lawful; made = program_made }

pub gives_program : (src : Bytes) (r : Result Program SourceFault) → GivesProgram r (content_at of_programs src) → IfOk r (λ p. Spells src p)
gives_program = texts.gives_meaning of_programs programs_are_lawful

pub gives_fault : (src : Bytes) (r : Result Program SourceFault) → GivesProgram r (content_at of_programs src) → IfErr r (λ f. f ≢ NoMemory → Faulty src f)
gives_fault = texts.gives_fault of_programs programs_are_lawful

pub gives_only : (src : Bytes) (r : Result Program SourceFault) → GivesProgram r (content_at of_programs src) → (answer : Result Program SourceFault) → Means src answer → AlikeUnless r answer
gives_only = texts.gives_only of_programs programs_are_lawful

pub each_text_has_no_more : EachTextHasNoMore
each_text_has_no_more = texts.each_text_has_no_more of_programs programs_are_lawful

pub each_text_has_one : EachTextHasOne
each_text_has_one = texts.each_text_has_one of_programs programs_are_lawful
