use Rattle.std.proofs.Common.{◌+◌, ◌*◌}
use Rattle.pc_program.specs.declared.tree.Stmt.TheVariants.{If, While}
use Rattle.pc_program.proofs.Weights.{weight, weights}
use Rattle.pc_graph.proofs.Drawing.{Doing}
use Rattle.pc_graph.proofs.lowering.+lowering.Given as goal

abbrev pub invariant-lower_list-loop-s : goal.invariant-lower_list-loop-s
invariant-lower_list-loop-s l = Doing l.n l.list l.s-index l.initial.draft l.draft

abbrev pub decreases-lower_stmt : goal.decreases-lower_stmt
decreases-lower_stmt l = 2 * weight l.s.now + 1

abbrev pub decreases-lower_if : goal.decreases-lower_if
decreases-lower_if l = 2 * weight (If l.place l.test.now l.then_part.now l.else_part.now)

abbrev pub decreases-lower_while : goal.decreases-lower_while
decreases-lower_while l = 2 * weight (While l.place l.test.now l.tried.now l.block.now)

abbrev pub decreases-lower_list : goal.decreases-lower_list
decreases-lower_list l = 2 * weights l.list.now
