use Rattle.std.proofs.Common.{◌≡◌, ◌≤◌, length}
use Rattle.pc_grammar.specs.Expressions.{paren}
use Rattle.pc_grammar.specs.Statements as spec
use Rattle.pc_grammar.proofs.Turns.{compares_from}
use Rattle.pc_grammar.proofs.compare.all.Given as goal

abbrev pub invariant-compares : goal.invariant-compares
invariant-compares l = (spec.all (paren l.depth) l.fn.cursor.rest.now ≡ compares_from (paren l.depth) l.found l.cursor.rest.now) × (length l.cursor.rest.now ≤ length l.fn.cursor.rest.now)

abbrev pub decreases-compares : goal.decreases-compares
decreases-compares l = length l.cursor.rest.now
