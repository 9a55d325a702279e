use Rattle.std.proofs.Common.{◌≡◌, ◌≤◌, length, ◌+◌, ◌*◌}
use Rattle.pc_grammar.specs.Expressions as spec
use Rattle.pc_grammar.proofs.Turns.{products_from, sums_from}
use Rattle.pc_grammar.proofs.expr.+expr.Given as goal

abbrev pub decreases-paren : goal.decreases-paren
decreases-paren l = 5 * l.depth

abbrev pub decreases-atom : goal.decreases-atom
decreases-atom l = 5 * l.depth + 1

abbrev pub decreases-factor : goal.decreases-factor
decreases-factor l = 5 * l.depth + 2

abbrev pub decreases-addend : goal.decreases-addend
decreases-addend l = 5 * l.depth + 3

abbrev pub decreases-expr : goal.decreases-expr
decreases-expr l = 5 * l.depth + 4

abbrev pub invariant-addend-factors : goal.invariant-addend-factors
invariant-addend-factors l = (spec.addend (spec.paren l.depth) l.fn.cursor.rest.now ≡ products_from (spec.paren l.depth) l.product l.cursor.rest.now) × (length l.cursor.rest.now ≤ length l.fn.cursor.rest.now)

abbrev pub decreases-addend-factors : goal.decreases-addend-factors
decreases-addend-factors l = length l.cursor.rest.now

abbrev pub invariant-expr-addends : goal.invariant-expr-addends
invariant-expr-addends l = (spec.expr l.depth l.fn.cursor.rest.now ≡ sums_from (spec.paren l.depth) l.sum l.cursor.rest.now) × (length l.cursor.rest.now ≤ length l.fn.cursor.rest.now)

abbrev pub decreases-expr-addends : goal.decreases-expr-addends
decreases-expr-addends l = length l.cursor.rest.now
