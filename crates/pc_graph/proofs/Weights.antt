-- The number of statements, by which the recursion over the blocks of an `if` ends.
use Rattle.std.proofs.Common.{ℕ, ◌<◌, List, sym, ap, ◌∙◌, arith}
use Rattle.pc_text.specs.declared.place.Place.{Place}
use Rattle.pc_program.specs.declared.tree.Test.{Test}
use Rattle.pc_program.specs.declared.tree.Stmt.{Stmt, fold-roll-Stmt}
use Rattle.pc_program.specs.declared.tree.Stmt.TheVariants.{If, rolls-If}
use Rattle.pc_program.specs.declared.tree.Stmt.TheOpen as stmt
use Rattle.pc_program.proofs.Weights.{weight, weights, weight_step}

pub then_smaller : (p : Place) (t : Test) (xs ys : List Stmt) → weights xs < weight (If p t xs ys)
then_smaller p t xs ys = let w = ap weight (sym (rolls-If p t xs ys)) ∙ fold-roll-Stmt ℕ weight_step (stmt.If p t xs ys) in omega arith
