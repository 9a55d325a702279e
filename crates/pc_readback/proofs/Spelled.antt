-- What a text spells is showable.
use Rattle.std.proofs.Common.{◌≡◌, true}
use Rattle.pc_text.specs.Bytes.{Bytes}
use Rattle.pc_grammar.specs.Symbols.{symbols_of}
use Rattle.pc_grammar.specs.Programs.{programs}
use Rattle.pc_grammar.specs.declared.tree.ProgramTree.{ProgramTree}
use Rattle.pc_syntax.specs.Context.{content_of}
use Rattle.pc_syntax.specs.Texts.{IsParsed}
use Rattle.pc_readback.specs.ShownTrees.{short_tree}
use Rattle.pc_readback.specs.ReadsBack.{SpelledAreShowable}
use Rattle.pc_readback.proofs.SpelledSymbols.{symbols_spelled}
use Rattle.pc_readback.proofs.SeenPrograms.{derived_short}
use Rattle.pc_readback.proofs.ShownPrograms.{walks_are_showable}

-- a parse tree of a text is within the limits of canonical texts
parsed_is_short : (src : Bytes) (t : ProgramTree) → IsParsed programs src t → short_tree src t ≡ true
parsed_is_short src t h = derived_short src t (symbols_of src h.found) h.derives.0 h.derives.1 (symbols_spelled src h.found h.tokens)

pub spelled_are_showable : SpelledAreShowable
spelled_are_showable src p h = walks_are_showable src h.tree (content_of p) (parsed_is_short src h.tree h.parsed) h.kept
