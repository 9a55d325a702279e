use Rattle.std.proofs.Common.{◌≡◌, ◌≤◌, ◌+◌, ◌*◌, length}
use Rattle.pc_grammar.specs.Statements as spec
use Rattle.pc_grammar.proofs.Turns.{stmts_from}
use Rattle.pc_grammar.proofs.stmt.+stmt.Given as goal

abbrev pub decreases-block : goal.decreases-block
decreases-block l = 5 * l.depth

abbrev pub decreases-else_part : goal.decreases-else_part
decreases-else_part l = 5 * l.depth + 1

abbrev pub decreases-if_stmt : goal.decreases-if_stmt
decreases-if_stmt l = 5 * l.depth + 2

abbrev pub decreases-while_stmt : goal.decreases-while_stmt
decreases-while_stmt l = 5 * l.depth + 2

abbrev pub decreases-stmt : goal.decreases-stmt
decreases-stmt l = 5 * l.depth + 3

abbrev pub decreases-stmts : goal.decreases-stmts
decreases-stmts l = 5 * l.depth + 4

abbrev pub invariant-stmts-items : goal.invariant-stmts-items
invariant-stmts-items l = (spec.stmts l.depth l.fn.cursor.rest.now ≡ stmts_from l.depth l.found l.cursor.rest.now) × (length l.cursor.rest.now ≤ length l.fn.cursor.rest.now)

abbrev pub decreases-stmts-items : goal.decreases-stmts-items
decreases-stmts-items l = length l.cursor.rest.now
