use Rattle.std.proofs.Common.{◌≡◌, ◌≤◌, length}
use Rattle.pc_language.specs.declared.terminal.Terminal.TheVariants as terminal
use Rattle.pc_grammar.specs.Combinators.{many}
use Rattle.pc_grammar.specs.Terminals.{the}
use Rattle.pc_grammar.specs.Statements.{block}
use Rattle.pc_grammar.proofs.Turns.{blocks_from}
use Rattle.pc_grammar.proofs.parallel.further.Given as goal

abbrev pub invariant-others : goal.invariant-others
invariant-others l = (many (the terminal.OpenBrace) (block l.depth) l.fn.cursor.rest.now ≡ blocks_from l.depth l.found l.cursor.rest.now) × (length l.cursor.rest.now ≤ length l.fn.cursor.rest.now)

abbrev pub decreases-others : goal.decreases-others
decreases-others l = length l.cursor.rest.now
