use Rattle.std.proofs.Common.{◌≡◌, ◌≤◌, length}
use Rattle.pc_grammar.specs.Expressions.{paren}
use Rattle.pc_grammar.specs.Rights as spec
use Rattle.pc_grammar.proofs.Turns.{joined_from}
use Rattle.pc_grammar.proofs.right.right.Given as goal

abbrev pub invariant-parts : goal.invariant-parts
invariant-parts l = (spec.right (paren l.depth) l.fn.cursor.rest.now ≡ joined_from (paren l.depth) l.sum l.cursor.rest.now) × (length l.cursor.rest.now ≤ length l.fn.cursor.rest.now)

abbrev pub decreases-parts : goal.decreases-parts
decreases-parts l = length l.cursor.rest.now
