-- What the walk over a parse tree keeps.
use Rattle.std.specs.Prelude.{◌≡◌, ℕ, true, Ok}
use Rattle.pc_grammar.specs.declared.tree.ProgramTree.{ProgramTree}
use Rattle.pc_text.specs.Bytes.{Bytes}
use Rattle.pc_syntax.specs.Context.{Content, checked}
use Rattle.pc_program.specs.Sane.{is_sane}
use Rattle.pc_syntax.specs.Trees.{fit_tree}

-- the names and the body that the context rules make of a tree of the grammar are those of a program
abbrev pub WalksAreSane : Type 0
WalksAreSane = (src : Bytes) (n : ℕ) (tree : ProgramTree) (c : Content) → fit_tree n tree ≡ true → checked src tree ≡ Ok c → is_sane c.names c.body ≡ true
