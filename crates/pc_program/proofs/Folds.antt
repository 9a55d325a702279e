-- Folds at each kind of expression and statement.
use Rattle.std.proofs.Common.{◌≡◌, ℕ, ℤ, List, map, ap, sym, ◌∙◌}
use Rattle.pc_text.specs.declared.place.Place.{Place}
use Rattle.pc_program.specs.declared.tree.Expr.{Expr, Expr-F, fold-Expr, fold-roll-Expr}
use Rattle.pc_program.specs.declared.tree.Expr.TheOpen as expr
use Rattle.pc_program.specs.declared.tree.Expr.TheVariants as e
use Rattle.pc_program.specs.declared.tree.Compare.{Compare}
use Rattle.pc_program.specs.declared.tree.Test.{Test}
use Rattle.pc_program.specs.declared.tree.Right.{Right}
use Rattle.pc_program.specs.declared.tree.Stmt.{Stmt, Stmt-F, fold-Stmt, fold-roll-Stmt}
use Rattle.pc_program.specs.declared.tree.Stmt.TheOpen as stmt
use Rattle.pc_program.specs.declared.tree.Stmt.TheVariants as s

module _ (A : Type 0) (step : Expr-F A → A) where
  pub fold-num : (n : ℤ) → fold-Expr A step (e.Num n) ≡ step (expr.Num n)
  fold-num n = ap (fold-Expr A step) (sym (e.rolls-Num n)) ∙ fold-roll-Expr A step (expr.Num n)

  pub fold-name : (v : ℕ) → fold-Expr A step (e.Name v) ≡ step (expr.Name v)
  fold-name v = ap (fold-Expr A step) (sym (e.rolls-Name v)) ∙ fold-roll-Expr A step (expr.Name v)

  pub fold-neg : (a : Expr) (p : Place) → fold-Expr A step (e.Neg a p) ≡ step (expr.Neg (fold-Expr A step a) p)
  fold-neg a p = ap (fold-Expr A step) (sym (e.rolls-Neg a p)) ∙ fold-roll-Expr A step (expr.Neg a p)

  pub fold-add : (a b : Expr) (p : Place) → fold-Expr A step (e.Add a b p) ≡ step (expr.Add (fold-Expr A step a) (fold-Expr A step b) p)
  fold-add a b p = ap (fold-Expr A step) (sym (e.rolls-Add a b p)) ∙ fold-roll-Expr A step (expr.Add a b p)

  pub fold-sub : (a b : Expr) (p : Place) → fold-Expr A step (e.Sub a b p) ≡ step (expr.Sub (fold-Expr A step a) (fold-Expr A step b) p)
  fold-sub a b p = ap (fold-Expr A step) (sym (e.rolls-Sub a b p)) ∙ fold-roll-Expr A step (expr.Sub a b p)

  pub fold-mul : (a b : Expr) (p : Place) → fold-Expr A step (e.Mul a b p) ≡ step (expr.Mul (fold-Expr A step a) (fold-Expr A step b) p)
  fold-mul a b p = ap (fold-Expr A step) (sym (e.rolls-Mul a b p)) ∙ fold-roll-Expr A step (expr.Mul a b p)

module _ (A : Type 0) (step : Stmt-F A → A) where
  pub fold-set : (p : Place) (v : ℕ) (r : Right) → fold-Stmt A step (s.Set p v r) ≡ step (stmt.Set p v r)
  fold-set p v r = ap (fold-Stmt A step) (sym (s.rolls-Set p v r)) ∙ fold-roll-Stmt A step (stmt.Set p v r)

  pub fold-if : (p : Place) (t : Test) (xs ys : List Stmt) → fold-Stmt A step (s.If p t xs ys) ≡ step (stmt.If p t (map (fold-Stmt A step) xs) (map (fold-Stmt A step) ys))
  fold-if p t xs ys = ap (fold-Stmt A step) (sym (s.rolls-If p t xs ys)) ∙ fold-roll-Stmt A step (stmt.If p t xs ys)

  pub fold-while : (p : Place) (t : Test) (tried : List Compare) (xs : List Stmt) →
      fold-Stmt A step (s.While p t tried xs) ≡ step (stmt.While p t tried (map (fold-Stmt A step) xs))
  fold-while p t tried xs = ap (fold-Stmt A step) (sym (s.rolls-While p t tried xs)) ∙ fold-roll-Stmt A step (stmt.While p t tried xs)

  pub fold-assert : (p : Place) (cs : List Compare) → fold-Stmt A step (s.Assert p cs) ≡ step (stmt.Assert p cs)
  fold-assert p cs = ap (fold-Stmt A step) (sym (s.rolls-Assert p cs)) ∙ fold-roll-Stmt A step (stmt.Assert p cs)

  pub fold-assume : (p : Place) (cs : List Compare) → fold-Stmt A step (s.Assume p cs) ≡ step (stmt.Assume p cs)
  fold-assume p cs = ap (fold-Stmt A step) (sym (s.rolls-Assume p cs)) ∙ fold-roll-Stmt A step (stmt.Assume p cs)
