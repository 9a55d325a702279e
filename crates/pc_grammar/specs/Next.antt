-- What the descent says of a part of a right side.
use Rattle.pc_grammar.specs.declared.symbol.Symbol.{Symbol}
use Rattle.pc_grammar.specs.declared.tree.ExprTree.{ExprTree}
use Rattle.pc_language.specs.declared.choice.Choice.{Choice}
use Rattle.pc_grammar.specs.declared.right.Next.{Next}
use Rattle.pc_grammar.specs.declared.right.Next.TheVariants as next_is
use Rattle.pc_grammar.specs.Combinators.{Part, More, Last}

abbrev pub next_of : Part (Symbol × ExprTree) Choice → Next
next_of (More x) = next_is.More x.0 x.1
next_of (Last z) = next_is.Last z
