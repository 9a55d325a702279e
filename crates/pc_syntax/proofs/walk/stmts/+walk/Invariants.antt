use Rattle.std.proofs.Common.{◌≡◌, ◌≤◌, ◌+◌, ◌-◌, ◌*◌, drop}
use Rattle.pc_language.specs.declared.limits.TheConstants.{EDGES}
use Rattle.pc_syntax.specs.Context.{checked_stmts}
use Rattle.pc_syntax.specs.Walks.{counted_behind}
use Rattle.pc_syntax.proofs.StepLemmas.{weight, weights}
use Rattle.pc_syntax.proofs.walk.stmts.+walk.Given as goal

abbrev pub decreases-stmt : goal.decreases-stmt
decreases-stmt l = 2 * weight l.tree.now

abbrev pub decreases-if_stmt : goal.decreases-if_stmt
decreases-if_stmt l = 2 * (weights l.then_part.now + weights l.else_part.now) - 1

abbrev pub decreases-while_stmt : goal.decreases-while_stmt
decreases-while_stmt l = 2 * weights l.body.now + 1

abbrev pub decreases-stmts : goal.decreases-stmts
decreases-stmts l = 2 * weights l.trees.now

abbrev pub invariant-stmts-loop-tree : goal.invariant-stmts-loop-tree
invariant-stmts-loop-tree l =
    (l.count ≤ EDGES) ×
    (counted_behind l.done (checked_stmts l.src l.names.names (drop l.tree-index l.trees) l.count) ≡ checked_stmts l.src l.names.names l.trees l.edges)
