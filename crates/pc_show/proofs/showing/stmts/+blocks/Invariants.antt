use Rattle.std.proofs.Common.{◌≡◌, ◌+◌, ◌*◌, ◌++◌, length, take}
use Rattle.pc_show.specs.Canonical.{stmts_pieces}
use Rattle.pc_show.specs.Pieces.{bytes_of}
use Rattle.pc_program.proofs.Weights.{weight, weights}
use Rattle.pc_show.proofs.showing.stmts.+blocks.Given as goal

abbrev pub decreases-push_block : goal.decreases-push_block
decreases-push_block l = 3 * weights l.list.now + 1

abbrev pub decreases-push_else : goal.decreases-push_else
decreases-push_else l = 3 * weights l.list.now + 2

abbrev pub decreases-push_stmt : goal.decreases-push_stmt
decreases-push_stmt l = 3 * weight l.s.now

abbrev pub decreases-push_stmts : goal.decreases-push_stmts
decreases-push_stmts l = 3 * weights l.list.now

-- behind the old text stand the statements so far
abbrev pub invariant-push_stmts-loop-s : goal.invariant-push_stmts-loop-s
invariant-push_stmts-loop-s l = l.text ≡ l.initial.text ++ bytes_of (stmts_pieces l.names.names (take l.s-index l.list) (length l.margin))
