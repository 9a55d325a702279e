-- Straight statements are no loops.
use Rattle.std.proofs.Common.{◌≡◌, List, [], refl, sym, ap, ◌∙◌}
use Rattle.pc_text.specs.declared.place.Place.{Place}
use Rattle.pc_program.specs.Loops.{whiles, whiles_step, whiles_of}
use Rattle.pc_program.specs.declared.tree.Stmt.{roll-Stmt, fold-roll-Stmt}
use Rattle.pc_program.specs.declared.tree.Stmt.TheOpen as stmt
use Rattle.pc_flow.proofs.Lists.{none_joined}
use Rattle.pc_graph.specs.Straight.{StraightIsLoopFree}
use Rattle.pc_graph.proofs.Blocks.{Single, assigns, asserts, assumes, Block, done, single, branch, cycle, single_stmt, stmts, Straight}
use Rattle.pc_graph.proofs.Listed.{body_of, body_is}
use Rattle.pc_graph.proofs.Whole.{body_straight}

single_free : (place : Place) (x : Single) → whiles (single_stmt place x) ≡ []
single_free place (assigns v r) = fold-roll-Stmt (List Place) whiles_step (stmt.Set place v r)
single_free place (asserts cs) = fold-roll-Stmt (List Place) whiles_step (stmt.Assert place cs)
single_free place (assumes cs) = fold-roll-Stmt (List Place) whiles_step (stmt.Assume place cs)

free : (b : Block) → Straight b → whiles_of (stmts b) ≡ []
free done s = refl
free (single place x more) s = none_joined (whiles (single_stmt place x)) (whiles_of (stmts more)) (single_free place x) (free more s.1)
free (branch place t xs ys more) s =
    none_joined (whiles (roll-Stmt (stmt.If place t (stmts xs) (stmts ys)))) (whiles_of (stmts more))
    (fold-roll-Stmt (List Place) whiles_step (stmt.If place t (stmts xs) (stmts ys)) ∙ none_joined (whiles_of (stmts xs)) (whiles_of (stmts ys)) (free xs s.1) (free ys s.2)) (free more s.3)
free (cycle place t tried xs more) s = absurd s

pub straight_is_loop_free : StraightIsLoopFree
straight_is_loop_free p h = sym (ap whiles_of (body_is p)) ∙ free (body_of p) (body_straight p h)
